-- What a registry knows: by looking back over the batches that it applied, the bound and who holds each id.
use Rattle.std.specs.Prelude.{◌≡◌, ℕ, List, [], ◌∷◌, ◌++◌, length, map, Option}
use Rattle.std.specs.HashMap.{get, spare}
use Rattle.event_id.specs.declared.id.EventId.{EventId}
use Rattle.event_id.specs.EventId.{is_same as same_id}
use Rattle.registry_state.specs.declared.Token.{Token}
use Rattle.registry_state.specs.declared.Insert.{Insert}
use Rattle.registry_state.specs.declared.Batch.{Batch}
use Rattle.registry_state.specs.declared.Answer.{Answer}
use Rattle.registry_state.specs.declared.registry.Registry.{Registry}
use Rattle.registry_state.specs.LookBack.{answer_at}
use Rattle.registry_state.specs.Recalls.{Recalls}

-- the token that the registry has for an id
abbrev pub token_of : Registry → EventId → Option Token
token_of registry id = get same_id registry.held id

-- for how many ids more there is room
abbrev pub room : Registry → ℕ
room registry = spare registry.held

-- the registry has the bound of these batches, and of each id its holder
abbrev pub Knows : Registry → List Batch → Type 0
Knows registry applied = Recalls registry.bound (token_of registry) applied

-- the bound and each token stay
pub record IsUnchanged (old new : Registry) : Type 0 where
  pub bound_is : new.bound ≡ old.bound
  pub tokens : (id : EventId) → token_of new id ≡ token_of old id

abbrev pub batch_of : ℕ → List Insert → Batch
batch_of bound inserts = record { bound = bound; inserts = inserts }

-- the answers to the inserts of a batch that is applied behind these
abbrev pub answers_to : List Batch → Batch → List Answer
answers_to applied batch = map (λ x. answer_at (applied ++ batch ∷ []) (length applied) x.id x.token) batch.inserts
