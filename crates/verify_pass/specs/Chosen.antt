-- What is found of each place, and the run of slots that have a batch.
use Rattle.std.specs.Prelude.{◌≡◌, ℕ, ◌<◌, List, [], length, map, slice_get, Option, Some, None, Vec}
use Rattle.std.specs.Option.{option_map}
use Rattle.std.specs.HashMap.{HashMap, get}
use Rattle.verify_pass.specs.Terms.{Ballot, Batch, Place, is_place, place_of}
use Rattle.verify_pass.specs.Groups.{cast_of, picked}
use Rattle.verify_pass.specs.declared.group.Acceptance.{Acceptance}
use Rattle.verify_pass.specs.declared.chosen.Chosen.{Chosen}

-- what was accepted in the place
abbrev pub items_of : {Z : Type 0} → Option (Vec Acceptance Z) → List Acceptance
items_of None = []
items_of (Some v) = v.items

abbrev pub group_in : {S Z : Type 0} → HashMap Place (Vec Acceptance Z) S → Place → List Acceptance
group_in groups p = items_of (get is_place groups p)

abbrev pub group_at : Chosen → Place → List Acceptance
group_at chosen p = group_in chosen.groups p

abbrev pub casts_at : Chosen → Place → List (ℕ × (Ballot × Batch))
casts_at chosen p = map cast_of (group_at chosen p)

-- the batch that is chosen by it
abbrev pub batch_in : ℕ → List Acceptance → Option Batch
batch_in n group = option_map (λ a. a.1) (picked n group)

abbrev pub batch_at : Chosen → Place → Option Batch
batch_at chosen p = batch_in chosen.replicas (group_at chosen p)

abbrev pub slots : Chosen → ℕ → ℕ → Option Batch
slots chosen shard slot = batch_at chosen (place_of shard slot)

-- nothing was accepted behind the last slot
abbrev pub EndsBy : Chosen → Type 0
EndsBy chosen = (p : Place) → chosen.last < p.slot → group_at chosen p ≡ []

-- each is the value of its place
abbrev pub AreAt : {V : Type 0} → (ℕ → Option V) → List V → Type 0
AreAt {V} f xs = (k : ℕ) (v : V) → slice_get xs k ≡ Some v → f k ≡ Some v

-- the values of f up to the first that is none
pub record IsFront {V : Type 0} (f : ℕ → Option V) (xs : List V) : Type 0 where
  pub each : AreAt f xs
  pub longest : f (length xs) ≡ None
