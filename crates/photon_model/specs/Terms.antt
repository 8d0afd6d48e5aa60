-- Terms of other crates, for the definitions and contracts of this one.
pub use Rattle.ballot_core.specs.declared.Ballot.{Ballot}
pub use Rattle.event_id.specs.declared.id.EventId.{EventId}
pub use Rattle.list_words.specs.Lists.{Begins, Distinct, Each, EachPair, Mem, has, set_at}
pub use Rattle.log_records.specs.Lines.{ClickLine, IsBoundary, at, end_from, placed}
pub use Rattle.log_records.specs.Log.{HoldsClicks, HoldsQueries, first}
pub use Rattle.log_records.specs.Report.{distinct}
pub use Rattle.log_records.specs.Rows.{one_click, one_query}
pub use Rattle.log_records.specs.declared.records.ClickRec.{ClickRec}
pub use Rattle.log_records.specs.declared.records.QueryRec.{QueryRec}
pub use Rattle.log_records.specs.declared.report.ReportLine.TheVariants.{J, M, U, X}
pub use Rattle.paxos_defs.specs.Agreement.{HasAccepted, JournalsAgree, OneChosen}
pub use Rattle.paxos_defs.specs.Attempts.{Phase, on_accepted}
pub use Rattle.paxos_defs.specs.Attempts.Phase.{Accepting, Ended, Promising}
pub use Rattle.paxos_defs.specs.Notes.Note.{Accepted, Promised}
pub use Rattle.paxos_defs.specs.declared.Place.{Place}
pub use Rattle.registry_state.specs.LookBack.{Expired, IsGranted, Registered, bound_of, holder}
pub use Rattle.registry_state.specs.declared.Answer.TheVariants.{Duplicate, Granted, TooOld}
pub use Rattle.registry_state.specs.declared.Batch.{Batch}
pub use Rattle.registry_state.specs.declared.Insert.{Insert}
pub use Rattle.registry_state.specs.declared.Token.{Token}
pub use Rattle.time_shards.specs.declared.ShardRow.{ShardRow}
pub use Rattle.turn_defs.specs.Dispatcher.{DispatcherKept, DispatcherLive, Fresh, dispatcher_at_rest, dispatcher_start, dispatcher_turn, dispatcher_unfinished, dispatcher_wants, land_dispatcher, waits}
pub use Rattle.turn_defs.specs.Joiner.{Flight, JoinerKept, JoinerLive, insert_of, joiner_at_rest, joiner_start, joiner_turn, joiner_unfinished, land_joiner}
pub use Rattle.turn_defs.specs.Nodes.{Addressed, IsNode}
pub use Rattle.turn_defs.specs.Replica.{ReplicaKept, land_replica, replica_start, replica_turn}
pub use Rattle.turn_defs.specs.Rows.{insert, one_batch, token, worked}
pub use Rattle.turn_defs.specs.Sent.{Sent}
pub use Rattle.turn_defs.specs.Server.{Proposal, ServerKept, ServerLive, ShardState, is_current, land_server, server_at_rest, server_start, server_turn, server_unfinished, server_wants}
pub use Rattle.turn_defs.specs.Setting.{Checked, IsJoin, IsJoinable, IsJoiner, IsOver, Setting, first_joiner, shard, shards}
pub use Rattle.turn_defs.specs.Turns.{Advance, BallotNote, Epoch, Note, Out, Output, Voted, idle, land}
pub use Rattle.turn_defs.specs.declared.node.Input.{Input}
pub use Rattle.turn_defs.specs.declared.node.Input.TheVariants.{Deliver, Own, Start, Tick}
pub use Rattle.turn_defs.specs.declared.node.Node.{Node}
pub use Rattle.turn_defs.specs.declared.node.Node.TheVariants.{Dispatcher, Joiner, Replica, Server}
pub use Rattle.turn_defs.specs.declared.packet.Outcome.TheVariants.{Already, Busy, NoQuery, Written}
pub use Rattle.turn_defs.specs.declared.packet.Packet.{Packet}
pub use Rattle.turn_defs.specs.declared.packet.Packet.TheVariants.{Accept, Chosen, Join, Joined, Nack, Prepare, Promise, Reply}
pub use Rattle.turn_defs.specs.declared.pair.PairRec.{PairRec}
