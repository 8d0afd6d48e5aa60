-- The words of this crate's proofs: what they take from its definitions and from the crates below, under one name each.
pub use Rattle.ballot_core.proofs.Order.{ballots_total}
pub use Rattle.batch_queue.proofs.Answering.{answered-append}
pub use Rattle.batch_queue.specs.declared.queue.BatchQueue.{BatchQueue}
pub use Rattle.batch_queue.specs.declared.queue.Put.{Put}
pub use Rattle.batch_queue.specs.declared.queue.Put.TheVariants.{Full}
pub use Rattle.epoch_journal.specs.declared.epochs.Epochs.{Epochs}
pub use Rattle.event_id.specs.EventId.{is_same as same_id}
pub use Rattle.event_id.specs.declared.id.EventId.{EventId}
pub use Rattle.id_expiry.specs.declared.timed.TimedRegistry.{TimedRegistry}
pub use Rattle.list_words.proofs.Lists.{at_set, each_append}
pub use Rattle.paxos_defs.specs.Turns.{higher}
pub use Rattle.registry_server.specs.Cores.{Gives, IsStep, IsTurn, MayRaise, Stands, Turn, changed, core_row, landed, note_of, nothing_known, site_of}
pub use Rattle.registry_server.specs.Registrars.{GoesOn, IsSpelledCore, IsSpelledTurn, Knows, Makes, ServesSite, is_next_epoch, known}
pub use Rattle.registry_server.specs.Replies.{each_reply}
pub use Rattle.registry_server.specs.Rowed.{FitsAt, IsAt, accept_all, current_in, current_of, learns_behind, number_of, proposes_if}
pub use Rattle.registry_server.specs.ShardStates.{EachStands, IsShard, NotLast, counts_promise, passes, proposal_of, put_last, says, stepped}
pub use Rattle.registry_server.specs.Spelled.{IsSpelledLive, IsSpelledPhase, IsSpelledPlan, IsSpelledProposal, IsSpelledShard}
pub use Rattle.registry_server.specs.Stations.{request, sent, setting}
pub use Rattle.registry_server.specs.Terms.{Accept as AcceptPacket, Accepting, Addressed, Answer, Ballot, Batch, Chosen, Deliver, Duplicate, Each, Granted, HasNoPlace, Input, Insert, IsAnswer, IsBallot, IsBatch, IsInsert, IsPlace, IsPrior, IsToken, IsUnanswered, LAST_EPOCH, LAST_SLOT, MOST_INSERTS, MOST_WAITING, Node, Note, Numbered, Only, Out, Own, Packet, Phase, Place, Prepare, Promising, Proposal, Proposer, Replica, Server, ServerKept, ServerLive, Setting, ShardState, Start, Tick, To, accept_if, acceptance_turn, accepted, again, all_again, answered, ballot_of, bound_of, claimed, empty_shard, first_in, first_insert, first_shard, from_replica, gets_accepted, gets_chosen, gets_nack, gets_promise, goes_on, has_token, idle, is_below_limit, is_current, is_empty, is_free, is_new, is_next, land, land_server, may_propose, nacked, nobody, numbered, on_accepted, on_promise, own_of, owns, phase_of, promise_turn, promised, proposes, queued, replay, replay_held, replays, replies, reply, reply_if, same_ballot as is_same, server_gets, server_own, server_rows, server_turn, set_at, shard, shard_count, shards, to_from, to_replicas, unanswered as left_of, waiting, with_acceptance, with_last, with_shard, worked}
pub use Rattle.registry_server.specs.declared.notes.HeldEpoch.{HeldEpoch}
pub use Rattle.registry_server.specs.declared.server_core.ServerCore.{ServerCore}
pub use Rattle.registry_server.specs.declared.shard.Shard.{Shard}
pub use Rattle.registry_server.specs.declared.shard.Step.{Step}
pub use Rattle.registry_server.specs.declared.shard.Step.TheVariants.{Accept, Learn, Promise, Propose, Queue}
pub use Rattle.registry_server.specs.declared.shard.Test.{Test}
pub use Rattle.registry_server.specs.declared.shard.Test.TheVariants.{MayPropose}
pub use Rattle.registry_server.specs.declared.station.Station.{Station}
pub use Rattle.registry_server.specs.declared.turn.Change.{Change}
pub use Rattle.registry_state.specs.Registry.{batch_of}
pub use Rattle.registry_state.specs.Same.{same_token}
pub use Rattle.registry_state.specs.declared.Token.{Token}
pub use Rattle.site_node.proofs.Stops.{meets}
pub use Rattle.site_node.proofs.Turns.{sent_ok}
pub use Rattle.site_node.specs.Bytes.{IsInput}
pub use Rattle.site_node.specs.Deciding.{IsTurn as IsTaken}
pub use Rattle.site_node.specs.States.{Fits, row_of}
pub use Rattle.std.proofs.lemmas.Bool.{and_from, and_left, and_parts, and_right, cases_eq, cond-false, cond-true, cond_both, eq-eqb, eqb-true, false_from_ne_true, le-ltb, lt-ltb, ltb-true, ne_eqb}
pub use Rattle.std.proofs.lemmas.Cmp.{tied_itself}
pub use Rattle.std.proofs.lemmas.List.{append-nil, append_assoc, drop_all, get_or-set_other, get_or-set_same, length-append, length-set, length-take, map-append, take_all, take_more}
pub use Rattle.std.proofs.lemmas.List.Elements.{All-push}
pub use Rattle.std.proofs.lemmas.Option.{cond_some, none-some}
pub use Rattle.std.proofs.lemmas.Result.{IfOk-weaker}
pub use Rattle.std.specs.List.{cons_option}
pub use Rattle.std.specs.Ordering.{is_eq}
pub use Rattle.turn_defs.specs.Packets.{IsPacket}
pub use Rattle.turn_defs.specs.Server.{unanswered}
