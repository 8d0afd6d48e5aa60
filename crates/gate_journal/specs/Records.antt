-- What the records of one kind keep, by two relations of the kind: what is read keeps a value, and is damaged at a place.
use Rattle.std.specs.Prelude.{◌⊎◌, ℕ, List, Bool, Result, Ok, IsTrue}
use Rattle.outside.specs.Faults.{Rose}
use Rattle.gate_journal.specs.Gate.{gate_rule}
use Rattle.gate_journal.specs.declared.reading.JournalFault.{JournalFault}
use Rattle.gate_journal.specs.declared.reading.JournalFault.TheVariants.{Damaged, Disk, Memory}

-- the payloads of a file, or the place of its damage
abbrev pub Read : Type 0
Read = Result (List (List ℕ)) ℕ

module _ {V : Type 0} (keeps : V → Read → Type 0) where
  -- the bytes keep this value
  abbrev pub Keeps : V → List ℕ → Type 0
  Keeps value bytes = keeps value (gate_rule bytes)

  abbrev pub KeepsOr : (old new : V) → List ℕ → Type 0
  KeepsOr old new bytes = Keeps old bytes ⊎ Keeps new bytes

  -- one of the images keeps it
  abbrev pub IsLeft : (List ℕ → Type 0) → V → Type 0
  IsLeft image value = (c : List ℕ) × image c × Keeps value c

module _ (damaged : Read → ℕ → Type 0) where
  -- A disk is refused at the place of its damage. A fault of the disk raised its count. Want of memory is free.
  abbrev pub IsRefused : Bool → List ℕ → ℕ → ℕ → JournalFault → Type 0
  IsRefused tells seen old new (Damaged at) = IsTrue tells → damaged (gate_rule seen) at
  IsRefused tells seen old new Disk = Rose old new
  IsRefused tells seen old new Memory = Unit {0}

  -- the same where the disk was reopened: it was damaged in one of its images
  abbrev pub IsRefusedAgain : Bool → (List ℕ → Type 0) → ℕ → ℕ → JournalFault → Type 0
  IsRefusedAgain tells image old new (Damaged at) = IsTrue tells → (c : List ℕ) × image c × damaged (gate_rule c) at
  IsRefusedAgain tells image old new Disk = Rose old new
  IsRefusedAgain tells image old new Memory = Unit {0}

  -- payloads that aren't all records of the kind, one after the other, are refused at the first other one
  abbrev pub FailsAt : List (List ℕ) → JournalFault → Type 0
  FailsAt payloads (Damaged at) = damaged (Ok payloads) at
  FailsAt payloads Disk = ⊥
  FailsAt payloads Memory = Unit {0}
