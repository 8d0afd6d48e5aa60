-- The words of this crate's proofs: what they take from its definitions and from the crates below, under one name each.
pub use Rattle.ballot_core.specs.Majority.{marked}
pub use Rattle.verify_pass.specs.Terms.{Ballot, Batch, ClickRec, Each, EventId, Knows, Note, PairRec, Place, ReplicaNote, ReportLine, ShardRow, TimedRegistry, bound_of, first_in, first_insert, holder, id_cmp, is_place, note_view, place_of, same_batch, shard_count, shard_of}
pub use Rattle.event_id.specs.EventId.{is_same as same_id}
pub use Rattle.list_words.proofs.Lists.{each_append, each_at, each_from, mem_left, mem_right}
pub use Rattle.log_records.specs.Report.{distinct}
pub use Rattle.log_records.specs.Rows.{one_click}
pub use Rattle.paxos_acceptor.specs.declared.notes.ReplicaNote.TheVariants.{Accepted, Promised}
pub use Rattle.paxos_defs.proofs.Decided.{at_push, decided_each, decided_longest}
pub use Rattle.paxos_defs.specs.Decided.{IsExact, all_accepted, chosen, decided, did_accept, is_acceptance, is_chosen, least, lower}
pub use Rattle.registry_state.proofs.Learning.{first_insert-push}
pub use Rattle.registry_state.proofs.Tests.{same_batch-refl, same_batch-true, same_id-false, same_id-refl, same_id-true}
pub use Rattle.registry_state.specs.LookBack.{or_else}
pub use Rattle.registry_state.specs.declared.Insert.{Insert}
pub use Rattle.registry_state.specs.declared.Token.{Token}
pub use Rattle.std.proofs.lemmas.Bool.{and_parts, cases_lt, eq-eqb, le-ltb, ltb-false, ltb-true}
pub use Rattle.std.proofs.lemmas.Bool.Decides.{nat_tests}
pub use Rattle.std.proofs.lemmas.Cmp.{tied_back, tied_itself}
pub use Rattle.std.proofs.lemmas.Grind.{common_steps, flat_map-append}
pub use Rattle.std.proofs.lemmas.List.{append-nil, get_or-map, length-map, length-take-le, map-append, map-set, map_more, take_all, take_more}
pub use Rattle.std.proofs.lemmas.List.Elements.{All-contains, filter_passes}
pub use Rattle.std.proofs.lemmas.List.Folds.{list_any-append}
pub use Rattle.std.proofs.lemmas.List.Sums.{fold-append}
pub use Rattle.std.proofs.lemmas.List.Kept.{IsStrictlySortedBy-filter}
pub use Rattle.std.proofs.lemmas.List.Sorted.{answers_always}
pub use Rattle.std.proofs.lemmas.Map.Keys.{Less-from_sorted, sorted_head, sorted_tail}
pub use Rattle.std.proofs.lemmas.Map.Views.{btree_set_contains_iff}
pub use Rattle.std.proofs.lemmas.Result.{on_ok_weaker}
pub use Rattle.std.proofs.lemmas.Simd.{map-map}
pub use Rattle.std.specs.BTreeSet.{contains, insert_key}
pub use Rattle.std.specs.Bool.{OnFalse, OnTrue}
pub use Rattle.std.specs.Borrow.{Bor}
pub use Rattle.std.specs.HashMap.{get}
pub use Rattle.std.specs.List.{AllByRecursion, flat_map, fold, list_any}
pub use Rattle.std.specs.List.Sorted.{IsBinarySearchResult, IsStrictlySortedBy}
pub use Rattle.std.specs.Map.{lookup}
pub use Rattle.std.specs.Option.{option_map}
pub use Rattle.std.specs.Ordering.{is_eq, ordering_index, ordering_reverse}
pub use Rattle.std.specs.declared.cmp.Ordering.{Ordering}
pub use Rattle.std.specs.declared.cmp.Ordering.TheVariants.{Equal, Greater, Less}
pub use Rattle.time_shards.specs.Shards.{IsTable}
pub use Rattle.verify_pass.specs.Chosen.{AreAt, EndsBy, IsFront, batch_at, batch_in, casts_at, group_at, group_in, items_of, slots}
pub use Rattle.verify_pass.specs.Classes.{all_pairs, decided_for, first_pair, in_order, is_missing, is_missing_by, line_by, notes_of, unwritten_line}
pub use Rattle.verify_pass.specs.Groups.{accepts, cast_of, casts, casts_from, did_replica, is_most, marks, value_of}
pub use Rattle.verify_pass.specs.Rows.{Says}
pub use Rattle.verify_pass.specs.States.{Grows, HasAt, HasWhole, Ids, IsAt, IsWhole, KnowAll}
pub use Rattle.verify_pass.specs.TooSoon.{IsBefore, IsEarlier, all_batches, batches_in, batches_of, inserts_of, least_from, least_with, lesser, taken, too_soon_for}
pub use Rattle.verify_pass.specs.declared.chosen.Chosen.{Chosen}
pub use Rattle.verify_pass.specs.declared.group.Acceptance.{Acceptance}
pub use Rattle.verify_pass.specs.declared.journals.Journals.{Journals}
pub use Rattle.verify_pass.specs.declared.starts.Latest.{Latest}
pub use Rattle.verify_pass.specs.declared.starts.TooSoon.{TooSoon}
pub use Rattle.verify_pass.specs.declared.starts.TooSoon.TheVariants.{Bound, Id}
pub use Rattle.verify_pass.specs.Lines.{TakesIn, id_of, joined, lines_by, missing_id, unboxed}
