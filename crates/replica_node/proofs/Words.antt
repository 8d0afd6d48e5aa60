-- The words of this crate's proofs: what they take from its definitions and from the crates below, under one name each.
pub use Rattle.gate_journal.specs.Opening.{IsOpened}
pub use Rattle.gate_journal.specs.Spelled.{comes_as, never_damaged}
pub use Rattle.gate_journal.specs.declared.reading.JournalFault.{JournalFault}
pub use Rattle.paxos_defs.proofs.Places.{cell_noted}
pub use Rattle.paxos_defs.specs.Notes.{Cell, Vote, acceptance, promise}
pub use Rattle.replica_node.specs.Core.{GoesOn, IsRow, Knows, Stands, Turn, noted}
pub use Rattle.replica_node.specs.Kept.{Doubts, Holds, IsCalm, either_way, same_calm, still_calm}
pub use Rattle.replica_node.specs.Node.{KnowsAs, Makes, VoterView, with_note}
pub use Rattle.replica_node.specs.Terms.{Accepted, Acceptor, BallotNote, Batch, Continues, Deliver, Each, IsLeft, IsNote, IsOldOrNew, IsRefusedAgain, IsUndamaged, IsVoted, KeepsNotes, KeepsOr, Note, OnDisk, Own, Packet, Place, Promised, Read, Ready, ReplicaKept, ReplicaNote, Setting, StandsFor, Start, Throughout, Tick, Voted, accepts, cell_at, cell_in, cell_with, continues_through, gate_rule, kept_of, land, land_replica, note, note_apart, note_at, note_for, note_view, on_accept, on_prepare, place_of, prepared, prepares, records, replica_gets, replica_rows, replica_start, same_batch, says, taken, worked}
pub use Rattle.output_log.specs.VoteLaws.{OneNote, fits}
pub use Rattle.output_log.specs.Votes.{is_damaged_at, spells}
pub use Rattle.replica_node.specs.declared.replica_core.ReplicaCore.{ReplicaCore}
pub use Rattle.replica_node.specs.declared.turn.Change.{Change}
pub use Rattle.replica_node.specs.declared.turn.Change.TheVariants.{Stays}
pub use Rattle.replica_node.specs.declared.vote_records.VoteRecords.{VoteRecords}
pub use Rattle.site_node.proofs.Replicas.{IsRowNote, each_push, gets_ok, views_ok}
pub use Rattle.site_node.proofs.Stops.{meets}
pub use Rattle.site_node.proofs.Turns.{sent_ok}
pub use Rattle.site_node.specs.Bytes.{IsInput}
pub use Rattle.site_node.specs.Deciding.{IsTurn as IsTaken}
pub use Rattle.site_node.specs.States.{Fits, row_of}
pub use Rattle.std.proofs.lemmas.Bool.{eq-eqb, ne_eqb}
pub use Rattle.std.proofs.lemmas.List.{append-nil, map-append, take_all, take_more}
pub use Rattle.std.proofs.lemmas.List.Elements.{All-head, All-same, All-tail}
pub use Rattle.std.specs.Result.{result_unwrap_or}
pub use Rattle.turn_defs.specs.Packets.{IsPacket}
pub use Rattle.turn_defs.specs.declared.node.Input.{Input}
pub use Rattle.turn_defs.specs.declared.node.Node.{Node}
