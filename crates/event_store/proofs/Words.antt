-- The words of this crate's proofs: what they take from its definitions and from the crates below, under one name each.
pub use Rattle.event_id.proofs.Spelling.{length-spell-le}
pub use Rattle.event_id.specs.EventId.{id_cmp, is_same, spell}
pub use Rattle.event_id.specs.declared.id.EventId.{EventId, EventId as Id}
pub use Rattle.event_store.specs.Found.{found, records}
pub use Rattle.event_store.specs.Held.{Holds, IsCache, Knows, Starts}
pub use Rattle.event_store.specs.Marks.{Begins, Falls, First, IsSegment, IsStray, Keeps, HasCounted, HasStayed, Mark, admits, as_first, begins, entry_of, first_of, ids_of, key_cmp, key_of, place_of, progress, progress_at, same_key, stray_of}
pub use Rattle.event_store.specs.Order.{distinct, entries_among, entries_of, ids_onto, in_order, is_in_order, run_length, same_process, strays}
pub use Rattle.event_store.specs.Read.{AreRead, IsAtEnd, ReadsAs, ReadsLines, ReadsNext, TellsId}
pub use Rattle.event_store.specs.StoreRows.{small_log}
pub use Rattle.event_store.specs.declared.index.Index.{Index}
pub use Rattle.event_store.specs.declared.index.Process.{Process, Process as Key}
pub use Rattle.event_store.specs.declared.index.Progress.{Progress}
pub use Rattle.list_words.proofs.Splits.{lacks_none, split_same}
pub use Rattle.list_words.specs.Bytes.{Lacks}
pub use Rattle.log_records.proofs.Grammar.{query_right, query_same}
pub use Rattle.log_records.proofs.Reading.{query_lacks}
pub use Rattle.log_records.specs.Line.{IsQuery, QueryWhy, query_line, space}
pub use Rattle.log_records.specs.Log.{first, line_feed}
pub use Rattle.log_records.specs.Rows.{one_query}
pub use Rattle.log_records.specs.Text.{IsPrintable}
pub use Rattle.log_records.specs.declared.check.TheConstants.{MAX_LOG}
pub use Rattle.log_records.specs.declared.lines.TheConstants.{MAX_LINE}
pub use Rattle.log_records.specs.declared.records.QueryRec.{QueryRec, QueryRec as Query}
pub use Rattle.log_records.specs.declared.why.Why.{Why}
pub use Rattle.std.proofs.Math.Dec.{lit≤}
pub use Rattle.std.proofs.Props.{props}
pub use Rattle.std.proofs.lemmas.Bool.{and_from, both_ways, cases_eq, cond-true, or_left, or_right}
pub use Rattle.std.proofs.lemmas.Bool.Decides.{Decides-eqb, nat_tests}
pub use Rattle.std.proofs.lemmas.List.{length-append}
pub use Rattle.std.proofs.lemmas.List.Elements.{All-from_recursion, filter_map-append}
pub use Rattle.std.proofs.lemmas.List.Folds.{find-append}
pub use Rattle.std.proofs.lemmas.List.Sums.{sum_by-cons}
pub use Rattle.std.proofs.lemmas.Option.{IfSome_then, MatchOption-at_none, MatchOption-at_some, none-some}
pub use Rattle.std.proofs.lemmas.Result.{IfOk-weaker}
pub use Rattle.std.proofs.lemmas.Slice.Eq.{starts_is}
pub use Rattle.std.specs.BTreeMap.{get, is_at}
pub use Rattle.std.specs.List.{list_any}
pub use Rattle.std.specs.Map.{lookup}
pub use Rattle.std.specs.Option.{option_or}
pub use Rattle.std.specs.Ordering.{ordering_then}
pub use Rattle.tail_reader.specs.Buffered.{behind}
pub use Rattle.tail_reader.specs.Next.{IsNext}
pub use Rattle.tail_reader.specs.declared.tail.Next.TheVariants.{Line, Long}
pub use mathlib.Core.Logic.{∥∥₁_elim, ∥∥₁_map}
