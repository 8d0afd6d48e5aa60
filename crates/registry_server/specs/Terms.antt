-- Terms of other crates, for the definitions and contracts of this one.
pub use Rattle.ballot_core.specs.Ballots.{is_same as same_ballot}
pub use Rattle.ballot_core.specs.declared.Ballot.{Ballot}
pub use Rattle.ballot_core.specs.declared.TheConstants.{LAST_EPOCH}
pub use Rattle.batch_queue.specs.Queue.{room as places, waiting}
pub use Rattle.batch_queue.specs.Waiting.{HasNoPlace, IsUnanswered, answered, has_token, replays, unanswered, with_last}
pub use Rattle.epoch_journal.specs.Epochs.{Keeps, KeepsOr, epoch_record}
pub use Rattle.gate_journal.specs.Growth.{Continues}
pub use Rattle.gate_journal.specs.declared.journal.JournalState.{JournalState}
pub use Rattle.gate_journal.specs.declared.journal.JournalState.TheVariants.{Ready}
pub use Rattle.id_expiry.specs.Timed.{Knows, room}
pub use Rattle.list_words.specs.Lists.{Each, set_at}
pub use Rattle.paxos_defs.specs.Attempts.{Phase, is_new, nobody, on_accepted, on_promise, with_acceptance}
pub use Rattle.paxos_defs.specs.Attempts.Phase.{Accepting, Ended, Promising}
pub use Rattle.paxos_defs.specs.declared.Place.{Place}
pub use Rattle.paxos_defs.specs.declared.TheConstants.{MOST_REPLICAS}
pub use Rattle.paxos_proposer.specs.Proposals.{acceptance_turn, ballot_of, own_of, phase_of, prior_of, promise_turn}
pub use Rattle.paxos_proposer.specs.declared.proposer.Proposer.{Proposer}
pub use Rattle.registry_state.specs.LookBack.{bound_of, first_in, first_insert, replay, replay_held}
pub use Rattle.registry_state.specs.declared.Answer.{Answer}
pub use Rattle.registry_state.specs.declared.Answer.TheVariants.{Duplicate, Granted}
pub use Rattle.registry_state.specs.declared.Batch.{Batch}
pub use Rattle.registry_state.specs.declared.Insert.{Insert}
pub use Rattle.registry_state.specs.declared.TheConstants.{MOST_INSERTS, MOST_WAITING}
pub use Rattle.site_node.specs.Rows.{Numbered, numbered, server_rows, spent_epoch}
pub use Rattle.time_shards.specs.Shards.{shard_count}
pub use Rattle.turn_defs.specs.Nodes.{Addressed}
pub use Rattle.turn_defs.specs.Rows.{insert, one_batch, token, worked, worked_late}
pub use Rattle.turn_defs.specs.Server.{Proposal, ServerKept, ServerLive, ShardState, accept_if, accepted, again, all_again, claimed, empty_shard, first_shard, from_replica, gets_accepted, gets_chosen, gets_nack, gets_promise, goes_on, is_below_limit, is_current, is_free, is_next, is_own_joiner, land_server, learns, may_propose, nacked, owns, promised, proposes, queued, replies, reply, reply_if, server_at_rest, server_gets, server_own, server_start, server_tick, server_turn, server_unfinished, server_wants, shard_unfinished, to_from, to_replicas, with_shard}
pub use Rattle.turn_defs.specs.Setting.{Setting, shard, shards}
pub use Rattle.turn_defs.specs.Spellings.{IsAnswer, IsBallot, IsBatch, IsInsert, IsPlace, IsPrior, IsToken}
pub use Rattle.turn_defs.specs.Turns.{Epoch, Note, Out, idle, is_empty, land}
pub use Rattle.turn_defs.specs.declared.limits.TheConstants.{LAST_SLOT}
pub use Rattle.turn_defs.specs.declared.node.Input.{Input}
pub use Rattle.turn_defs.specs.declared.node.Input.TheVariants.{Deliver, Own, Start, Tick}
pub use Rattle.turn_defs.specs.declared.node.Node.{Node}
pub use Rattle.turn_defs.specs.declared.node.Node.TheVariants.{Joiner, Replica, Server}
pub use Rattle.turn_defs.specs.declared.node.To.{To}
pub use Rattle.turn_defs.specs.declared.node.To.TheVariants.{Only}
pub use Rattle.turn_defs.specs.declared.packet.Packet.{Packet}
pub use Rattle.turn_defs.specs.declared.packet.Packet.TheVariants.{Accept, Chosen, Prepare}
