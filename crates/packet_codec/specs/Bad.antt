-- Where the bytes that are left stop being the front of a spelling, for a set of spellings.
use Rattle.std.specs.Prelude.{◌≡◌, ℕ, ◌≤◌, List, ◌∷◌, ◌++◌, length, take}

-- so many of the bytes left begin a spelling
pub record Reaches (IsSpelling : List ℕ → Type 0) (rest : List ℕ) (n : ℕ) : Type 0 where
  pub within : n ≤ length rest
  pub more : List ℕ
  pub whole : IsSpelling (take n rest ++ more)

-- no spelling begins what is left, and `at` is the length of the longest front of it that begins a spelling
pub record IsBadAt (IsSpelling : List ℕ → Type 0) (rest : List ℕ) (at : ℕ) : Type 0 where
  pub none : (front tail : List ℕ) → IsSpelling front → rest ≡ front ++ tail → ⊥
  pub reaches : Reaches IsSpelling rest at
  pub furthest : (n : ℕ) → Reaches IsSpelling rest n → n ≤ at

-- the spellings of the values that have one
abbrev pub Spelled : {V : Type 0} → (V → List ℕ) → (V → Type 0) → List ℕ → Type 0
Spelled {V} spell Is bytes = (v : V) × Is v × (bytes ≡ spell v)

-- what may follow the tag in a spelling
abbrev pub After : ℕ → (List ℕ → Type 0) → List ℕ → Type 0
After tag IsSpelling bytes = IsSpelling (tag ∷ bytes)

-- a spelling, followed by one of these
pub record Followed {V : Type 0} (spell : V → List ℕ) (Is : V → Type 0) (IsNext : List ℕ → Type 0) (bytes : List ℕ) : Type 0 where
  pub value : V
  pub is : Is value
  pub back : List ℕ
  pub next : IsNext back
  pub whole : bytes ≡ spell value ++ back
