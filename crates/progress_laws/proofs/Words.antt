-- The words of this crate's proofs: what they take from its definitions and from the crates below, under one name each.
pub use Rattle.photon_model.proofs.Agreeing.{IsPlain, dispatcher_row_plain, joiner_row_plain}
pub use Rattle.photon_model.proofs.Finding.{addressed, find_none, first_is, first_none, sent_addressed}
pub use Rattle.photon_model.proofs.JoinerRows.{landed_before, landed_or}
pub use Rattle.photon_model.proofs.Local.{own_one, same_node-self, same_node-true}
pub use Rattle.photon_model.proofs.ServerRows.{current_at, replicas_each, replies_each, reply_each, tick_each}
pub use Rattle.photon_model.proofs.Words.{Accept, Accepted, Accepting, Addressed, AllFactsHold, Answer, AnyJoiner, Ballot, Batch, Begin, BothUp, Carries, Chosen, Claim, Click, ClickLine, Deliver, Disks, Dispatcher, DispatcherKept, DispatcherLive, DispatcherWorks, Each, End, Ended, Entry, Fits, Flight, FlightHolds, Fresh, Grant, Granted, IfUp, Input, Insert, IsAtRest, IsBelow, IsInterval, IsJoiner, IsNode, IsQuiet, IsRun, IsTo, IsTurn, IsUpTo, IsWork, Join, Joined, Joiner, JoinerHolds, JoinerKept, JoinerLive, JoinerWorks, KeptOf, LiveOf, MOST_WAITING, Majority, May, MayBegin, Mem, Nack, NoQuery, Node, Note, Only, Out, Own, Packet, Phase, Place, Prepare, Prepared, Promise, Promising, Proposal, Refuse, Replica, ReplicaKept, Reply, Sent, Server, ServerKept, ServerLive, ServerWorks, Setting, ShardState, Start, Stop, Taken, Tick, To, Token, UpWith, WasSent, World, WorldHolds, accepted, after, again, all_again, answers, at, at_node, at_set, begun, bound_of, cell_at, claimed, clash, compared, dispatcher_at_rest, dispatcher_row, dispatcher_turn, dispatcher_unfinished, dispatcher_wants, each_at, empty_shard, ended, first_done, first_joiner, first_shard, fresh_joins, gets_accepted, gets_nack, gets_promise, goes_on, has, has_room, has_without-self, idle, if_up, in_flight, insert_of, is_below_limit, is_current, is_empty, is_for, is_free, is_most, is_new, is_out, is_own_joiner, is_place, is_same, is_tick_of, is_unfinished, join, join_if, joiner_at_rest, joiner_row, joiner_turn, joiner_unfinished, known, land, land_at, land_replica, landed, learns, looks, mark, marked, may_propose, mem_left, mem_right, mem_split, nacked, nobody, none_some, not_above, of_phase, on_accept, on_accepted, on_prepare, on_promise, opening, option_both, owns, place_true, prepared, promised, put_in, queued, replay, replica_row, replica_turn, replied, replies, reply, row, row_of, same_batch, same_batch-true, same_false, same_id-refl, same_node, same_token-refl, same_true, sends, server_at_rest, server_gets, server_row, server_start, server_tick, server_turn, server_unfinished, server_wants, set_at, shard, shard_below, shard_unfinished, shards, site_of_joiner, some_same, some_waits, start_at, taken, ticks_due, ticks_of, to_from, to_live, to_replicas, trying_joins, turn_at, upto_trans, waits, without_flight, world_after}
pub use Rattle.photon_model.proofs.Worlds.{after_append, of_two, row_by, run_append, set_own, up_is}
pub use Rattle.progress_laws.specs.Idle.{AreIdle, HasNumbers, IsIdle, IsWithinLimits, NoWork}
pub use Rattle.progress_laws.specs.Moves.{HeldIsRefused, IsHeldAt, IsRefusedFrom, LeftIsRefused, Refusal, RestOrRefused, WorkMovesOn, WorkMovesOnBy, is_left, live_among, next_of, promise_at}
pub use Rattle.progress_laws.specs.Rows.{CarriesOnce, ThreeAreIdle, after_first, after_second, after_third, all_live, beginning, down_again, duel, ends, fourth, plays, restarts, second, stale, third, three, to_one}
pub use Rattle.std.proofs.lemmas.Bool.{and_cases, and_from, and_parts, cases_Bool, cases_lt, cond-false, cond-true, cond_both, eq-eqb, eqb-true, le-leb, le-ltb, lt-leb, lt-ltb, ltb-true, not-false, not-true, not_from_false, not_from_true, or_cases, or_left, or_parts, or_right, true≢false}
pub use Rattle.std.proofs.lemmas.List.{length-append, length-replicate, length-set}
pub use Rattle.std.proofs.lemmas.List.Sums.{length-filter}
pub use Rattle.std.proofs.lemmas.Option.{slice_get_within}
pub use Rattle.progress_laws.specs.Terms.{IsTable}
