-- What a registry with its ids by time knows: by looking back over the batches that it applied.
use Rattle.std.specs.Prelude.{◌≡◌, ℕ, ◌-◌, List, length, Option, vec_capacity}
use Rattle.std.specs.BTreeMap.{get}
use Rattle.event_id.specs.declared.id.EventId.{EventId}
use Rattle.registry_state.specs.declared.Token.{Token}
use Rattle.registry_state.specs.declared.Batch.{Batch}
use Rattle.registry_state.specs.LookBack.{first_in, or_else}
use Rattle.registry_state.specs.Recalls.{Recalls}
use Rattle.id_expiry.specs.declared.timed.TimedRegistry.{TimedRegistry}
use Rattle.id_expiry.specs.Times.{of_id, by_time}

-- the token that the registry has for an id, in the order or among the newest
abbrev pub token_of : TimedRegistry → EventId → Option Token
token_of registry id = or_else (get by_time registry.held (of_id id)) (first_in registry.newest.items id)

-- the registry has the bound of these batches, and of each id its holder
abbrev pub Knows : TimedRegistry → List Batch → Type 0
Knows registry applied = Recalls registry.bound (token_of registry) applied

-- the bound and each token stay
pub record IsUnchanged (old new : TimedRegistry) : Type 0 where
  pub bound_is : new.bound ≡ old.bound
  pub tokens : (id : EventId) → token_of new id ≡ token_of old id

-- for how many ids more there is room among the newest
abbrev pub room : TimedRegistry → ℕ
room registry = vec_capacity registry.newest - length registry.newest.items
