-- What holds after every run. A run begins with all nodes down and nothing sent, over checked logs and a sound store.
use Rattle.std.specs.Prelude.{◌≡◌, ◌⊎◌, ℕ, ◌<◌, ◌≤◌, List, [], ◌∷◌, Some, ⊤}
use Rattle.photon_model.specs.Terms.{Accepted, Ballot, Batch, Checked, Dispatcher, EventId, Insert, Joiner, Mem, Place, Replica, Server, Setting, Token, bound_of, holder, shards}
use Rattle.photon_model.specs.Journals.{journals, decided}
use Rattle.photon_model.specs.Sound.{values_of, IsWritten, IsDrained, accepted_inserts, SoundStore}
use Rattle.photon_model.specs.Facts.{known, WorldHolds}
use Rattle.photon_model.specs.Rest.{IsAtRest}
use Rattle.photon_model.specs.Runs.{World, Entry, Begin, End, Stop, Disks, world_after, IsRun, opening}
use Rattle.photon_model.specs.Agreement.{Offer}
use Rattle.photon_model.specs.Voting.{BallotsHold}

-- P holds of each setting and of the world after each run
abbrev pub AfterEveryRun : (Setting → World → Type 0) → Type 0
AfterEveryRun P = (g : Setting) (d : Disks) (es : List Entry) → Checked g → SoundStore g d → IsRun g (opening d) es → P g (world_after g (opening d) es)

-- All facts hold of packets, nodes, disks and ballots: for a list of the inserts whose tokens were drawn, and one of the
-- values that were offered to replicas.
abbrev pub AllFactsHold : Setting → World → Type 0
AllFactsHold g w = (drawn : List Insert) × (offered : List Offer) × WorldHolds g w drawn × BallotsHold g w offered

abbrev pub decided_in : Setting → World → ℕ → List Batch
decided_in g w = decided (journals g.config.replicas (λ r. (w.replicas r).kept))

-- no joiner stops
abbrev pub NoJoinerStops : List Entry → Type 0
NoJoinerStops [] = ⊤
NoJoinerStops (Stop (Joiner j) landed ∷ es) = ⊥
NoJoinerStops (Stop (Dispatcher s) landed ∷ es) = NoJoinerStops es
NoJoinerStops (Stop (Server s) landed ∷ es) = NoJoinerStops es
NoJoinerStops (Stop (Replica r) landed ∷ es) = NoJoinerStops es
NoJoinerStops (Begin m i ∷ es) = NoJoinerStops es
NoJoinerStops (End m o ps k ∷ es) = NoJoinerStops es

-- the horizon, or a bound of the list
abbrev pub IsBoundOk : Setting → List ℕ → ℕ → Type 0
IsBoundOk g old b = (b ≡ g.config.horizon) ⊎ Mem b old

-- a list with the bounds of all accepted records
abbrev pub HasBounds : Setting → Disks → List ℕ → Type 0
HasBounds g d old = (r : ℕ) (at : Place) (b : Ballot) (v : Batch) → r < g.config.replicas → Mem (Accepted at b v) (d.replicas r).notes → Mem v.bound old

-- What rest leaves after a run from a store: both dispatchers have drained; each shard's decided bound is not below the
-- horizon, and is the horizon or one that was accepted before the run; and where no joiner stopped, each missing id is held
-- by a token that stood in an accepted record before the run.
pub record RestLeaves (g : Setting) (d : Disks) (es : List Entry) (old : List ℕ) (w : World) : Type 0 where
  pub drained : (s : ℕ) → s < 2 → IsDrained g (w.dispatchers s).kept
  pub bounds : (shard : ℕ) → shard < shards g → (g.config.horizon ≤ bound_of (decided_in g w shard)) × IsBoundOk g old (bound_of (decided_in g w shard))
  pub missing : NoJoinerStops es → (i : EventId) (h : Token) → holder (values_of g (known g w []) i) i ≡ Some h → (IsWritten g (known g w []) i → ⊥) → Mem (record { id = i; token = h }) (accepted_inserts g d)

abbrev pub RestIsDone : Type 0
RestIsDone =
    (g : Setting) (d : Disks) (es : List Entry) (old : List ℕ) →
    Checked g → SoundStore g d → HasBounds g d old → IsRun g (opening d) es → IsAtRest g (world_after g (opening d) es) → RestLeaves g d es old (world_after g (opening d) es)
