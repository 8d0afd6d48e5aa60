-- One row of the turn table: a note for a disk, packets, the volatile state after it.
use Rattle.std.specs.Prelude.{ℕ, Bool, true, false, List, [], ◌∷◌, Option, Some, None}
use Rattle.paxos_defs.specs.Notes as paxos
use Rattle.registry_state.specs.declared.Batch.{Batch}
use Rattle.turn_defs.specs.declared.packet.Packet.{Packet}
use Rattle.turn_defs.specs.declared.node.To.{To}
use Rattle.turn_defs.specs.declared.pair.PairRec.{PairRec}

-- a record of a replica's journal
abbrev pub BallotNote : Type 0
BallotNote = paxos.Note Batch

-- a record on a disk
pub data Note : Type 0 where
  Advance : ℕ → Note
  Park : ℕ → Note
  Settle : ℕ → Note
  Epoch : ℕ → Note
  Output : PairRec → Note
  Voted : paxos.Note Batch → Note

pub record Out (L : Type 0) : Type 0 where
  pub note : Option Note
  pub packets : List (To × Packet)
  pub live : L

-- no row applies
abbrev pub idle : {L : Type 0} → L → Out L
idle l = record { note = None; packets = []; live = l }

-- what the disks hold once the note is written, where one note is written as f says
abbrev pub land : {K : Type 0} → (Note → K → K) → Option Note → K → K
land f None k = k
land f (Some n) k = f n k

-- whether there is no element
abbrev pub is_empty : {A : Type 0} → List A → Bool
is_empty [] = true
is_empty (x ∷ xs) = false
