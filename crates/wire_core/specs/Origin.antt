-- Parts of shared bytes.
use Rattle.std.specs.Prelude.{◌≡◌, ◌+◌, ◌≤◌, ℕ, List, Option, Some, length, option_map, slice_range}
use Rattle.wire_core.specs.declared.shared.Origin.{Origin}

-- the shared bytes that something is read of, and the place in them that it goes up to
abbrev pub shared_up_to : Origin → Option (List ℕ × ℕ)
shared_up_to origin = option_map (λ within. (within.0.now, within.1)) origin.within

-- the part stands in these shared bytes, from start to end, so many bytes before the place
pub record StandsIn (origin : Option (List ℕ × ℕ)) (part : List ℕ) (behind : ℕ) (shared : List ℕ) (start end : ℕ) : Type 0 where
  pub origin_is : origin ≡ Some (shared, end + behind)
  pub end_is : start + length part ≡ end
  pub inside : end ≤ length shared
  pub same : slice_range shared start end ≡ part
