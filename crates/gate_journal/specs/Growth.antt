-- When records are only added.
use Rattle.std.specs.Prelude.{◌≡◌, ℕ, List, ◌++◌, Result, Ok, Err}
use Rattle.gate_journal.specs.Gate.{gate_rule}

-- The old records stand first in the new ones. Damage stays where it is.
abbrev pub Extends : Result (List (List ℕ)) ℕ → Result (List (List ℕ)) ℕ → Type 0
Extends (Ok old) (Ok new) = (more : List (List ℕ)) × (new ≡ old ++ more)
Extends (Ok old) (Err at) = ⊥
Extends (Err at) new = new ≡ Err at

-- there is an image, whatever the bytes
abbrev pub HasImage : (List ℕ → Type 0) → List ℕ → Type 0
HasImage image bytes = (c : List ℕ) × image c

-- the records of the bytes begin with those of one of the images
abbrev pub Continues : (List ℕ → Type 0) → List ℕ → Type 0
Continues image bytes = (c : List ℕ) × image c × Extends (gate_rule c) (gate_rule bytes)
