-- Records of offsets.
use Rattle.std.specs.Prelude.{ℕ, ◌<◌, ◌-◌, ◌^◌, List, ◌∷◌, Option, Result}
use Rattle.std.specs.Int.{to_be_bytes, w64}
use Rattle.gate_journal.specs.Gate.{gate_rule}
use Rattle.gate_journal.specs.Fold.{Fold, read_as, folds_to}
use Rattle.gate_journal.specs.Rising as numbers
use Rattle.gate_journal.specs.Records as of

-- the record of an offset
abbrev pub offset_record : ℕ → List ℕ
offset_record offset = 3 ∷ to_be_bytes w64 offset

-- the offset of a record that is one of an offset above the last one
abbrev pub next_offset : ℕ → List ℕ → Option ℕ
next_offset = numbers.next_number 3 w64 (2 ^ 64 - 1)

-- with no record the offset is 0
abbrev pub offsets : Fold ℕ
offsets = numbers.rising 3 w64 (2 ^ 64 - 1)

abbrev pub MayCome : ℕ → ℕ → Type 0
MayCome last offset = (last < offset) × (offset < 2 ^ 64)

-- the offset that a file keeps
abbrev pub offset_of : List ℕ → Result ℕ ℕ
offset_of bytes = read_as offsets (gate_rule bytes)

-- the bytes keep this offset
abbrev pub Keeps : ℕ → List ℕ → Type 0
Keeps = of.Keeps (folds_to offsets)

abbrev pub KeepsOr : (old new : ℕ) → List ℕ → Type 0
KeepsOr = of.KeepsOr (folds_to offsets)

abbrev pub IsLeft : (List ℕ → Type 0) → ℕ → Type 0
IsLeft = of.IsLeft (folds_to offsets)
