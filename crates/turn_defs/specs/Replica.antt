-- The replica's rows of the turn table: its state is that of its notes.
use Rattle.std.specs.Prelude.{Bool, true, false, List, [], ◌∷◌, ◌++◌, Option, Some, None}
use Rattle.ballot_core.specs.declared.Ballot.{Ballot}
use Rattle.paxos_defs.specs.declared.Place.{Place}
use Rattle.paxos_defs.specs.Notes.{note_of, Vote, votes_at, Cell, cell_of}
use Rattle.paxos_defs.specs.Turns.{Prepared, Taken, on_prepare, on_accept}
use Rattle.paxos_defs.specs.Turns.Prepared.{Grant, Refuse}
use Rattle.paxos_defs.specs.Turns.Taken.{Take, Decline}
use Rattle.registry_state.specs.declared.Batch.{Batch}
use Rattle.registry_state.specs.Same.{same_batch}
use Rattle.turn_defs.specs.declared.packet.Packet.{Packet}
use Rattle.turn_defs.specs.declared.packet.Packet.TheVariants.{Prepare, Promise, Nack, Accept, Accepted}
use Rattle.turn_defs.specs.declared.node.Node.{Node}
use Rattle.turn_defs.specs.declared.node.To.TheVariants.{Only}
use Rattle.turn_defs.specs.declared.node.Input.{Input}
use Rattle.turn_defs.specs.declared.node.Input.TheVariants.{Deliver}
use Rattle.turn_defs.specs.Turns.{BallotNote, Note, Voted, Out, idle}

-- what its disk holds; it knows nothing besides
pub record ReplicaKept : Type 0 where
  pub notes : List BallotNote

-- what its disk holds once a note is written
abbrev pub land_replica : Note → ReplicaKept → ReplicaKept
land_replica (Voted x) k = record { notes = k.notes ++ x ∷ [] }
land_replica _ k = k

-- what it knows of a place
abbrev pub cell_at : ReplicaKept → Place → Cell Batch
cell_at k at = cell_of (votes_at at k.notes)

abbrev pub note_at : Place → Option (Vote Batch) → Option Note
note_at at None = None
note_at at (Some x) = Some (Voted (note_of at x))

-- a note, and a packet to the sender
abbrev pub says : Node → Packet → Option Note → Out (Unit {0})
says to p note = record { note = note; packets = (Only to, p) ∷ []; live = tt }

abbrev pub prepared : Place → Ballot → Prepared Batch → Packet
prepared at b (Grant prior) = Promise at b prior
prepared at b (Refuse p) = Nack at b p

abbrev pub taken : Place → Ballot → Taken → Packet
taken at b Take = Accepted at b
taken at b (Decline p) = Nack at b p

abbrev pub prepares : Node → Place → Ballot → Option (Vote Batch) × Prepared Batch → Out (Unit {0})
prepares to at b turn = says to (prepared at b turn.1) (note_at at turn.0)

abbrev pub accepts : Node → Place → Ballot → Option (Vote Batch) × Taken → Out (Unit {0})
accepts to at b turn = says to (taken at b turn.1) (note_at at turn.0)

abbrev pub replica_gets : ReplicaKept → Node → Packet → Out (Unit {0})
replica_gets k from (Prepare at b) = prepares from at b (on_prepare (cell_at k at) b)
replica_gets k from (Accept at b v) = accepts from at b (on_accept same_batch (cell_at k at) b v)
replica_gets k from _ = idle tt

abbrev pub replica_turn : ReplicaKept → Input → Out (Unit {0})
replica_turn k (Deliver from p) = replica_gets k from p
replica_turn k _ = idle tt

-- it comes up with nothing to write or send
abbrev pub replica_start : ReplicaKept → Out (Unit {0})
replica_start k = idle tt

-- it has nothing to do by itself, and waits for nobody
abbrev pub replica_wants : ReplicaKept → Bool
replica_wants k = false

abbrev pub replica_unfinished : ReplicaKept → Bool
replica_unfinished k = false

abbrev pub replica_at_rest : ReplicaKept → Bool
replica_at_rest k = true
