-- The words of this crate's proofs: what they take from its definitions and from the crates below, under one name each.
pub use Rattle.air_bus.specs.Airs.{Agrees, open_of}
pub use Rattle.air_bus.specs.Copies.{Copy, copies_of, copy, least_delay, least_of, left_by, next_copy, sooner, take_out}
pub use Rattle.air_bus.specs.History.{IsAired, IsQuiet, MayFollow, input_of, is_of, next_input, node_of, phase, phase_after, phase_step}
pub use Rattle.air_bus.specs.Inboxes.{AllTurn, AreWide, Keeps, Turns}
pub use Rattle.air_bus.specs.Inputs.{or_other, packet_input}
pub use Rattle.air_bus.specs.Kept.{is_stop_from, reaches}
pub use Rattle.air_bus.specs.Laws.{Fits, IsStart, Sent, sent, sent_by, sent_to}
pub use Rattle.air_bus.specs.Queues.{AreTogether, Holds, HoldsOn, Stands, copy_at}
pub use Rattle.air_bus.specs.Waiting.{Received, after_entry, arriving, is_dead, is_replica, link_fate, nothing, one_packet, ordinal, puts, puts_one, received, taken_by, waiting}
pub use Rattle.air_bus.specs.declared.entry.Entry.{Entry}
pub use Rattle.air_bus.specs.declared.entry.Entry.TheVariants.{Begin, End, Stop}
pub use Rattle.air_bus.specs.declared.entry.Input.{Input}
pub use Rattle.air_bus.specs.declared.entry.Input.TheVariants.{Packet}
pub use Rattle.air_bus.specs.declared.entry.Phase.{Phase}
pub use Rattle.air_bus.specs.declared.entry.Phase.TheVariants.{Busy, Down, Idle}
pub use Rattle.air_bus.specs.declared.inbox.Inbox.{Inbox}
pub use Rattle.air_bus.specs.declared.queue.Parcel.{Parcel}
pub use Rattle.list_words.proofs.Lists.{each_append, each_from, each_more, mem_left, mem_right, pairs_push}
pub use Rattle.list_words.specs.Lists.{Each, EachPair, Mem}
pub use Rattle.lossy_link.specs.Fates.{PlanView}
pub use Rattle.lossy_link.specs.declared.plan.Fate.{Fate}
pub use Rattle.lossy_link.specs.declared.plan.Kind.{Kind}
pub use Rattle.std.proofs.Crossing.{crosses}
pub use Rattle.std.proofs.lemmas.Bool.{and_from, cases_lt, cond_both, eq-eqb, eqb-true, le-leb, leb-true, lt-ltb, ltb-true, or_cases, or_left, or_right, true≢false}
pub use Rattle.std.proofs.lemmas.List.{get_or_read, length-map, length-set, map-append, take_all}
pub use Rattle.std.proofs.lemmas.List.Elements.{All-cons, All-from_recursion, All-head, All-tail}
pub use Rattle.std.proofs.lemmas.List.Sorted.{All-permutation, sum_by_popped, sum_by_pushed}
pub use Rattle.std.proofs.lemmas.List.Sums.{fold_more, fold_push, get_or-le-sum_by, sum_by-append, sum_by-cons, sum_by-le, sum_by-set}
pub use Rattle.std.proofs.lemmas.Slice.Eq.{bytes_eq-Decides}
pub use Rattle.std.specs.BinaryHeap.{IsHeap, IsUpperBound, heap_items, heap_len}
pub use Rattle.std.specs.Borrow.{Bor}
pub use Rattle.std.specs.List.{All, list_any}
pub use Rattle.std.specs.Ordering.{flip_args, is_lt, nat_cmp, on, then_cmp}
pub use Rattle.std.specs.Str.{bytes_eq}
pub use Rattle.std.specs.declared.cmp.Ordering.{Ordering}
pub use base.Shift.{Keyless}
pub use denote.Model.Knot.{stage}
pub use denote.Param.Send.{IsSend, sendable}
pub use denote.RattleType.{RattleType}
pub use mathlib.Core.Logic.{dite}
pub use mir.Val.{Val}
pub use native.Mathlib.Decide.{ℕ_discrete}
