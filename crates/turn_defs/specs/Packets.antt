-- The one spelling of each packet, and which packets have one. Numbers stand high byte first.
use Rattle.std.specs.Prelude.{ℕ, List, [], ◌∷◌, ◌++◌}
use Rattle.log_records.specs.Line.{IsClick}
use Rattle.turn_defs.specs.Spellings.{number, IsNumber, token, IsToken, insert, IsInsert, answer, IsAnswer, ballot, IsBallot, place, IsPlace, batch, IsBatch, prior, IsPrior, click}
use Rattle.turn_defs.specs.declared.packet.Outcome.{Outcome}
use Rattle.turn_defs.specs.declared.packet.Outcome.TheVariants.{Written, Already, TooOld, NoQuery, Busy}
use Rattle.turn_defs.specs.declared.packet.Packet.{Packet}
use Rattle.turn_defs.specs.declared.packet.Packet.TheVariants.{Join, Joined, Insert, Reply, Prepare, Promise, Nack, Accept, Accepted, Chosen}

-- a tag, and what the outcome tells
abbrev pub outcome : Outcome → List ℕ
outcome Written = 0 ∷ []
outcome (Already t) = 1 ∷ token t
outcome (TooOld bound) = 2 ∷ number bound
outcome (NoQuery lines) = 3 ∷ number lines
outcome Busy = 4 ∷ []

abbrev pub IsOutcome : Outcome → Type 0
IsOutcome Written = Unit {0}
IsOutcome (Already t) = IsToken t
IsOutcome (TooOld bound) = IsNumber bound
IsOutcome (NoQuery lines) = IsNumber lines
IsOutcome Busy = Unit {0}

-- a tag, and the packet's fields
abbrev pub packet : Packet → List ℕ
packet (Join position c) = 0x11 ∷ (number position ++ click c)
packet (Joined position o) = 0x12 ∷ (number position ++ outcome o)
packet (Insert x) = 0x13 ∷ insert x
packet (Reply x a) = 0x14 ∷ (insert x ++ answer a)
packet (Prepare p b) = 0x15 ∷ (place p ++ ballot b)
packet (Promise p b before) = 0x16 ∷ (place p ++ (ballot b ++ prior before))
packet (Nack p b promised) = 0x17 ∷ (place p ++ (ballot b ++ ballot promised))
packet (Accept p b v) = 0x18 ∷ (place p ++ (ballot b ++ batch v))
packet (Accepted p b) = 0x19 ∷ (place p ++ ballot b)
packet (Chosen p v) = 0x1A ∷ (place p ++ batch v)

-- the fields have spellings
abbrev pub IsPacket : Packet → Type 0
IsPacket (Join position c) = IsNumber position × IsClick c
IsPacket (Joined position o) = IsNumber position × IsOutcome o
IsPacket (Insert x) = IsInsert x
IsPacket (Reply x a) = IsInsert x × IsAnswer a
IsPacket (Prepare p b) = IsPlace p × IsBallot b
IsPacket (Promise p b before) = IsPlace p × IsBallot b × IsPrior before
IsPacket (Nack p b promised) = IsPlace p × IsBallot b × IsBallot promised
IsPacket (Accept p b v) = IsPlace p × IsBallot b × IsBatch v
IsPacket (Accepted p b) = IsPlace p × IsBallot b
IsPacket (Chosen p v) = IsPlace p × IsBatch v
