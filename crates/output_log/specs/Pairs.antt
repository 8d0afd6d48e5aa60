-- Records of joined pairs.
use Rattle.std.specs.Prelude.{◌⊎◌, ℕ, List, [], ◌∷◌, ◌++◌, Bool}
use Rattle.gate_journal.specs.Gate.{gate_rule}
use Rattle.gate_journal.specs.Records.{Read}
use Rattle.gate_journal.specs.Records as of
use Rattle.gate_journal.specs.declared.reading.JournalFault.{JournalFault}
use Rattle.gate_journal.specs.Spelled as spelled
pub use Rattle.packet_codec.specs.Notes.{pair as record_of, pair_fields as fields_of}
use Rattle.registry_state.specs.declared.Token.{Token}
use Rattle.log_records.specs.declared.records.ClickRec.{ClickRec}
use Rattle.log_records.specs.declared.records.QueryRec.{QueryRec}
use Rattle.turn_defs.specs.Spellings.{IsPair}
use Rattle.turn_defs.specs.declared.pair.PairRec.{PairRec}

-- a click with its query, under a token
abbrev pub pair_of : ClickRec → QueryRec → Token → PairRec
pair_of c q t = record { click = c; query = q; token = t }

-- no pair has this record
abbrev pub IsOther : List ℕ → Type 0
IsOther = spelled.IsOther IsPair record_of

-- what is read is the records of these pairs, in order
abbrev pub spells : List PairRec → Read → Type 0
spells = spelled.spells IsPair record_of

-- the bytes keep these pairs
abbrev pub Keeps : List PairRec → List ℕ → Type 0
Keeps = of.Keeps spells

-- the old pairs, or those and the new one
abbrev pub KeepsOr : List PairRec → PairRec → List ℕ → Type 0
KeepsOr old new bytes = Keeps old bytes ⊎ Keeps (old ++ new ∷ []) bytes

-- one of the images keeps them
abbrev pub IsLeft : (List ℕ → Type 0) → List PairRec → Type 0
IsLeft = of.IsLeft spells

-- it is damaged at a place by its gates, or else at that of the first record that is no pair's
abbrev pub is_damaged_at : Read → ℕ → Type 0
is_damaged_at = spelled.is_damaged_at IsPair record_of

abbrev pub IsDamagedAt : List ℕ → ℕ → Type 0
IsDamagedAt bytes at = is_damaged_at (gate_rule bytes) at

abbrev pub IsRefusedAgain : Bool → (List ℕ → Type 0) → ℕ → ℕ → JournalFault → Type 0
IsRefusedAgain = of.IsRefusedAgain is_damaged_at
