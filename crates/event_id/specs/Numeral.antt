-- Numbers in decimal.
use Rattle.std.specs.Prelude.{ℕ, List, [], ◌∷◌, ◌≢◌}
use Rattle.std.specs.Char.{IsAsciiDigit}

-- the text begins with no plus sign, and with a zero only if it is all
abbrev pub HasPlainFront : List ℕ → Type 0
HasPlainFront [] = Unit {0}
HasPlainFront (b ∷ []) = b ≢ 43
HasPlainFront (b ∷ c ∷ bs) = (b ≢ 43) × (b ≢ 48)

-- no digit stands first in the text, which may be empty
abbrev pub BeginsWithNoDigit : List ℕ → Type 0
BeginsWithNoDigit [] = Unit {0}
BeginsWithNoDigit (b ∷ bs) = IsAsciiDigit b → ⊥
