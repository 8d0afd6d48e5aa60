-- The words of this crate's proofs: what they take from its definitions and from the crates below, under one name each.
pub use Rattle.dispatch_core.specs.Changes.{changed, note_of}
pub use Rattle.dispatch_core.specs.Dealing.{GoInTurn, dealt, joiner_at, next_after}
pub use Rattle.dispatch_core.specs.Outboxes.{Puts, waiting_joins}
pub use Rattle.dispatch_core.specs.Spelled.{ArePackets, IsJoin}
pub use Rattle.dispatch_core.specs.Standing.{AreClicksAt, Carries, Fits, IsAlike, IsDealt, IsOrdered, IsTurn, Sends, Stands, Takes, live_of, out_of}
pub use Rattle.dispatch_core.specs.Terms.{Addressed, Already, Click, Config, DispatcherKept, DispatcherLive, Distinct, Each, Fresh, Input, IsClick, IsPacket, IsTo, Join, Node, Out, Outcome, Packet, Setting, To, TooOld, Written, after_done, contains, deque_len, dispatcher_gets, dispatcher_joined, dispatcher_own, dispatcher_tick, done_end, ends, first_done, fresh_joins, has, insert_key, join, land, land_dispatcher, list_any, mark, parks, some_waits, takes, trying_joins, waits, without, zip}
pub use Rattle.dispatch_core.specs.Windows.{AreBefore, IsFound, IsRising, IsRisingFrom, Lacks, fresh_of}
pub use Rattle.dispatch_core.specs.declared.dealer.Dealer.{Dealer}
pub use Rattle.dispatch_core.specs.declared.dispatch.DispatchCore.{DispatchCore}
pub use Rattle.dispatch_core.specs.declared.input.DispatchInput.{DispatchInput}
pub use Rattle.dispatch_core.specs.declared.line.FreshLine.{FreshLine}
pub use Rattle.dispatch_core.specs.declared.outbox.Outbox.{Outbox}
pub use Rattle.dispatch_core.specs.declared.turns.Change.{Change}
pub use Rattle.dispatch_core.specs.declared.turns.Change.TheVariants.{Advance, Finish, Leave, Nothing, Retry, Settle, Take}
pub use Rattle.dispatch_core.specs.declared.turns.Turn.{Turn}
pub use Rattle.list_words.proofs.Lists.{clash, distinct_push, distinct_without, each_append, has_push, has_push-false, has_without, has_without-false, has_without-self}
pub use Rattle.registry_state.proofs.Learning.{succeeded}
pub use Rattle.registry_state.specs.declared.Token.{Token}
pub use Rattle.std.proofs.lemmas.Bool.{cond-false, cond-true, eqb-false, eqb-true, ne_eqb, or_right}
pub use Rattle.std.proofs.lemmas.Cmp.{nat_eq_equiv, ranked}
pub use Rattle.std.proofs.lemmas.List.{append-nil, append_assoc, map-append, nil_from_length, take_all, take_more}
pub use Rattle.std.proofs.lemmas.List.Elements.{All-head, All-nil, All-same, All-tail}
pub use Rattle.std.proofs.lemmas.List.Sorted.{answers_always}
pub use Rattle.std.proofs.lemmas.Result.{IfOk-weaker}
pub use Rattle.std.specs.List.Sorted.{IsBinarySearchResult, IsPartitionPoint, IsSearchInRange}
pub use Rattle.std.specs.Ordering.{nat_cmp, ordering_index}
pub use Rattle.std.specs.Set.{remove_key}
pub use Rattle.std.specs.Slice.Iter.{iter_rest}
pub use Rattle.std.specs.VecDeque.Iter.{deque_iter_rest}
pub use Rattle.std.specs.declared.cmp.Ordering.{Ordering}
pub use Rattle.std.specs.declared.cmp.Ordering.TheVariants.{Equal, Greater, Less}
pub use Rattle.turn_defs.specs.declared.node.To.TheVariants.{AnyJoiner}
