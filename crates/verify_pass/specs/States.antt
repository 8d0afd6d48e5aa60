-- The registries of all shards.
use Rattle.std.specs.Prelude.{◌≡◌, ℕ, ◌||◌, true, is_some, List, length, slice_get, Option, Some}
use Rattle.std.specs.BTreeSet.{BTreeSet, contains}
use Rattle.verify_pass.specs.Terms.{Batch, EventId, Knows, ShardRow, TimedRegistry, first_insert, id_cmp, shard_of}
use Rattle.verify_pass.specs.Chosen.{AreAt, IsFront}

-- the registry of each id's shard has applied the id's batches
abbrev pub KnowAll : List TimedRegistry → List ShardRow → (EventId → List Batch) → Type 0
KnowAll registries table batches = (i : EventId) (state : TimedRegistry) → slice_get registries (shard_of table i) ≡ Some state → Knows state (batches i)

-- the registry has applied the values of the slots below n
pub record IsAt (f : ℕ → Option Batch) (n : ℕ) (state : TimedRegistry) : Type 0 where
  pub applied : List Batch
  pub count : length applied ≡ n
  pub each : AreAt f applied
  pub known : Knows state applied

-- it has applied the values up to the first slot that has none
abbrev pub IsWhole : (ℕ → Option Batch) → TimedRegistry → Type 0
IsWhole f state = (applied : List Batch) → IsFront f applied → Knows state applied

abbrev pub Ids : Type 0
Ids = BTreeSet EventId

-- no id is lost
abbrev pub Grows : Ids → Ids → Type 0
Grows old new = (i : EventId) → contains id_cmp old i ≡ true → contains id_cmp new i ≡ true

-- the set has the ids that the first one had, and those of the inserts of these batches
abbrev pub HasInserts : List Batch → Ids → Ids → Type 0
HasInserts applied first ids = (i : EventId) → contains id_cmp ids i ≡ (contains id_cmp first i || is_some (first_insert applied i))

pub record HasAt (f : ℕ → Option Batch) (n : ℕ) (first ids : Ids) : Type 0 where
  pub applied : List Batch
  pub count : length applied ≡ n
  pub each : AreAt f applied
  pub known : HasInserts applied first ids

abbrev pub HasWhole : (ℕ → Option Batch) → Ids → Ids → Type 0
HasWhole f first ids = (applied : List Batch) → IsFront f applied → HasInserts applied first ids
