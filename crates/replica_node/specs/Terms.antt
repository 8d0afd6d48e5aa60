-- Terms of other crates, for the definitions and contracts of this one.
pub use Rattle.ballot_core.specs.declared.Ballot.{Ballot}
pub use Rattle.gate_journal.proofs.Growth.{continues_same, continues_through}
pub use Rattle.gate_journal.specs.Gate.{IsOldOrNew, StandsFor, gate_rule, records}
pub use Rattle.gate_journal.specs.Growth.{Continues}
pub use Rattle.gate_journal.specs.Records.{IsLeft, IsRefusedAgain, KeepsOr, Read}
pub use Rattle.gate_journal.specs.declared.journal.JournalState.TheVariants.{Ready}
pub use Rattle.list_words.specs.Lists.{Each}
pub use Rattle.outside.specs.Disk.{Throughout}
pub use Rattle.packet_codec.proofs.NoteParts.{note_apart, note_room}
pub use Rattle.packet_codec.specs.Notes.{IsNote, note}
pub use Rattle.paxos_acceptor.specs.Cells.{cell_in, cell_with, note_for, note_view, place_of, prepared_as, room, taken_as}
pub use Rattle.paxos_acceptor.specs.declared.acceptor.Acceptor.{Acceptor}
pub use Rattle.paxos_acceptor.specs.declared.notes.ReplicaNote.{ReplicaNote}
pub use Rattle.paxos_acceptor.specs.declared.notes.ReplicaNote.TheVariants.{Accepted, Promised}
pub use Rattle.paxos_defs.specs.Turns.{on_accept, on_prepare}
pub use Rattle.paxos_defs.specs.declared.Place.{Place}
pub use Rattle.registry_state.specs.Same.{same_batch}
pub use Rattle.registry_state.specs.declared.Batch.{Batch}
pub use Rattle.site_node.specs.Faults.{IsUndamaged, of_two}
pub use Rattle.site_node.specs.Replicas.{IsVoted, KeepsNotes, OnDisk, kept_of, records_of, replica_rows, vote_record}
pub use Rattle.std.specs.Coded.{Coded-set, Unit-prop, coded_list, coded_result, coded_ℕ, ×_prop, Π_prop, →_prop}
pub use Rattle.turn_defs.specs.Replica.{ReplicaKept, accepts, cell_at, land_replica, note_at, prepared, prepares, replica_at_rest, replica_gets, replica_start, replica_turn, replica_unfinished, replica_wants, says, taken}
pub use Rattle.turn_defs.specs.Rows.{one_batch, worked}
pub use Rattle.turn_defs.specs.Setting.{Setting}
pub use Rattle.turn_defs.specs.Turns.{BallotNote, Note, Out, Voted, idle, land}
pub use Rattle.turn_defs.specs.declared.node.Input.TheVariants.{Deliver, Own, Start, Tick}
pub use Rattle.turn_defs.specs.declared.packet.Packet.{Packet}
