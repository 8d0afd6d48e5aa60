-- The greatest number of a kind that is no greater than a given one.
use Rattle.std.specs.Prelude.{◌≡◌, ◌⊎◌, ℕ, suc, ◌<◌, ◌≤◌, List, get_or}
use Rattle.site_store.specs.Terms.{line_feed}

-- none of the numbers above `low` up to `high` has P
abbrev pub NoneBetween : (ℕ → Type 0) → ℕ → ℕ → Type 0
NoneBetween P low high = (n : ℕ) → low < n → n ≤ high → P n → ⊥

-- the greatest number with P above `least` and up to `at`, or `least` where there is none
pub record IsFloorFrom (P : ℕ → Type 0) (least at floor : ℕ) : Type 0 where
  pub above : least ≤ floor
  pub below : floor ≤ at
  pub is : (floor ≡ least) ⊎ P floor
  pub none : NoneBetween P floor at

-- the greatest number with P up to `at`, or 0 where there is none
abbrev pub IsFloorOf : (ℕ → Type 0) → ℕ → ℕ → Type 0
IsFloorOf P at floor = IsFloorFrom P 0 at floor

-- the byte before p is a line feed
abbrev pub IsBehindFeed : List ℕ → ℕ → Type 0
IsBehindFeed bytes p = (i : ℕ) × (p ≡ suc i) × (get_or bytes i 0 ≡ line_feed)
