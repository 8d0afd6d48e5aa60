-- The words of this crate's proofs: what they take from its definitions and from the crates below, under one name each.
pub use Rattle.dispatch_core.proofs.Sets.{any_has, removed}
pub use Rattle.dispatch_core.specs.declared.input.TakenLine.{TakenLine}
pub use Rattle.dispatch_core.specs.declared.turns.Turn.{Turn}
pub use Rattle.dispatch_node.specs.Dispatchers.{GoesOn, Knows, Serves, known}
pub use Rattle.dispatch_node.specs.Follows.{AreInOrder, Follows}
pub use Rattle.dispatch_node.specs.Journals.{Doubts, Holds, IsFound, are_ready, kept, ready_states}
pub use Rattle.dispatch_node.specs.Kept.{takes_note}
pub use Rattle.dispatch_core.specs.Places.{AreKeptPlaces, AreLivePlaces, IsEntry, IsLogOf, IsReadable, StartsAt}
pub use Rattle.dispatch_node.specs.Terms.{AreClicksAt, Carries, Click, ClickLine, DispatchCore, DispatchNote, DispatcherKept, DispatcherLive, Distinct, Each, Fits as FitsStep, Follow, Fresh, HasSameNumbers, IsBoundary, IsClick, IsKept, IsLineAt, IsLookedUp, IsNext, IsTurn, MAX_LOG, Mem, Note, Numbered, Out, Setting, Stands, Step, Throughout, advances, after_done, and_parts, at, changed, click_at, click_line, cond_both, dispatcher_gets, dispatcher_joined, dispatcher_looks, dispatcher_own, dispatcher_rows, dispatcher_start, dispatcher_turn, done_end, end_from, ends, eq-eqb, eqb-true, first_done, has, has_room, idle, land, land_dispatcher, live_of, lt-ltb, mark, not-true, note_of, numbered, or_cases, or_left, or_right, out_of, parks, placed, retries, row_of, taken, takes, told, waits, with_room, without}
pub use Rattle.dispatch_node.specs.declared.dispatcher.HeldPlaces.{HeldPlaces}
pub use Rattle.list_words.proofs.Lists.{clash, each_append, has_push-false, has_push-left, has_push-or, has_push-right, has_without, has_without-false, has_without-self, has_without-true, option_both}
pub use Rattle.list_words.proofs.Splits.{lacks_none, split_same}
pub use Rattle.list_words.specs.Bytes.{Lacks}
pub use Rattle.log_records.proofs.Grammar.{click_right}
pub use Rattle.log_records.proofs.LineOrder.{at_mem, at_own, within_end}
pub use Rattle.log_records.proofs.Places.{lines_end, lines_follow, lines_stand}
pub use Rattle.log_records.proofs.Reading.{click_lacks}
pub use Rattle.log_records.specs.Log.{line_feed}
pub use Rattle.retry_log.specs.Pending.{KeepsOr}
pub use Rattle.site_node.proofs.Stops.{first_meets, one_by_one, second_meets}
pub use Rattle.site_node.specs.States.{Fits}
pub use Rattle.site_node.specs.declared.kind.NodeFault.{NodeFault}
pub use Rattle.std.proofs.Math.Seq.{drop-append_seam}
pub use Rattle.std.proofs.lemmas.Cmp.{nat_eq_equiv}
pub use Rattle.std.proofs.lemmas.List.{take_all, take_more}
pub use Rattle.std.proofs.lemmas.Result.{IfOk-weaker}
pub use Rattle.std.specs.List.{AllByRecursion}
pub use Rattle.std.specs.Option.{option_map}
pub use Rattle.std.specs.Set.{remove_key}
pub use Rattle.tail_reader.specs.Buffered.{behind}
pub use Rattle.tail_reader.specs.declared.tail.Next.{Next}
pub use Rattle.tail_reader.specs.declared.tail.Next.TheVariants.{End, Line, Long}
pub use Rattle.turn_defs.specs.declared.node.Input.{Input}
pub use Rattle.turn_defs.specs.declared.node.Input.TheVariants.{Deliver, Own, Start, Tick}
pub use Rattle.turn_defs.specs.declared.packet.Outcome.{Outcome}
pub use Rattle.turn_defs.specs.declared.packet.Packet.{Packet}
