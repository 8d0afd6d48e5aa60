-- What the images of a disk, each of which a stop may leave, stand for beside those before.
use Rattle.std.specs.Prelude.{ℕ, List}
use Rattle.gate_journal.specs.Growth.{Continues}
use Rattle.gate_journal.specs.Opening.{IsOpened}

-- each image stands for what one of the images before stood for
abbrev pub StaysAs : (List ℕ → Type 0) → (List ℕ → Type 0) → Type 0
StaysAs old new = (c : List ℕ) → new c → IsOpened old c

-- each image continues one of the images before
abbrev pub GoesOn : (List ℕ → Type 0) → (List ℕ → Type 0) → Type 0
GoesOn old new = (c : List ℕ) → new c → Continues old c

-- one of the images has bytes that keep what the journal keeps
abbrev pub IsKeptIn : (List ℕ → Type 0) → (List ℕ → Type 0) → Type 0
IsKeptIn image keeps = (c : List ℕ) × image c × keeps c
