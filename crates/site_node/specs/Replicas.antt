-- A replica's rows as those of a kind of node, and what its disk keeps.
use Rattle.std.specs.Prelude.{ℕ, List, map}
use Rattle.std.specs.List.{All}
use Rattle.paxos_defs.specs.Notes.Note.{Promised, Accepted}
use Rattle.paxos_acceptor.specs.declared.notes.ReplicaNote.{ReplicaNote}
use Rattle.paxos_acceptor.specs.Cells.{note_view}
use Rattle.gate_journal.specs.Gate.{StandsFor}
use Rattle.turn_defs.specs.Spellings.{IsPlace, IsBallot, IsBatch}
use Rattle.turn_defs.specs.Turns.{BallotNote, Voted}
use Rattle.turn_defs.specs.Replica.{ReplicaKept, replica_start, replica_turn, land_replica}
use Rattle.packet_codec.specs.Notes.{note, IsNote}
use Rattle.site_node.specs.Bytes.{record_of}
use Rattle.site_node.specs.States.{State, Rows, MayHold}

-- the rows of a replica as those of a kind of node
abbrev pub replica_rows : Rows ReplicaKept (Unit {0})
replica_rows = record { start = replica_start; turn = λ g k l i. replica_turn k i; lands = land_replica }

abbrev pub ReplicaState : Type 0
ReplicaState = State ReplicaKept (Unit {0})

-- the parts of a note have spellings
abbrev pub IsVoted : BallotNote → Type 0
IsVoted (Promised at b) = IsPlace at × IsBallot b
IsVoted (Accepted at b v) = IsPlace at × IsBallot b × IsBatch v

-- what a disk holds that has these notes
abbrev pub kept_of : List ReplicaNote → ReplicaKept
kept_of notes = record { notes = map note_view notes }

-- the records of the kept notes
abbrev pub vote_record : BallotNote → List ℕ
vote_record n = record_of (Voted n)

abbrev pub records_of : ReplicaKept → List (List ℕ)
records_of k = map vote_record k.notes

-- the disk's bytes hold these notes
abbrev pub OnDisk : ReplicaKept → List ℕ → Type 0
OnDisk k bytes = StandsFor (records_of k) bytes

-- the disk's bytes hold what the state keeps, or that and the note of its open turn
abbrev pub KeptOn : ReplicaState → List ℕ → Type 0
KeptOn s bytes = (k : ReplicaKept) × MayHold replica_rows s k × OnDisk k bytes

-- the bytes keep these notes
abbrev pub KeepsNotes : List ReplicaNote → List ℕ → Type 0
KeepsNotes notes bytes = All IsNote notes × StandsFor (map note notes) bytes
