-- The words of this crate's proofs: what they take from its definitions and from the crates below, under one name each.
pub use Rattle.event_id.proofs.Spelling.{length-spell-le, spell_lacks, spell_same}
pub use Rattle.event_id.specs.declared.id.EventId.{EventId}
pub use Rattle.list_words.proofs.Splits.{lacks_append, lacks_none, position_at, split_same}
pub use Rattle.list_words.specs.Bytes.{Lacks}
pub use Rattle.log_records.specs.Check.{AfterWhy, IsClickLog, IsLog, IsQueryLog, NextWhy, Refuses, RefusesClick, RefusesQuery}
pub use Rattle.log_records.specs.Line.{AreClickParts, AreQueryParts, ClickWhy, IsClick, IsIdText, IsQuery, OrMemory, QueryWhy, TextWhy, click_line, head, query_line, space, tail}
pub use Rattle.log_records.specs.Log.{AreRecords, HasLines, Holds, HoldsClicks, HoldsQueries, line_feed, whole}
pub use Rattle.log_records.specs.Seen.{Keeps, Seen, is_at, line_at}
pub use Rattle.log_records.specs.declared.records.ClickRec.{ClickRec}
pub use Rattle.log_records.specs.declared.records.QueryRec.{QueryRec}
pub use Rattle.log_records.specs.declared.why.Why.{Why}
pub use Rattle.std.proofs.lemmas.Bool.{cases_Bool, eq-eqb, ne_eqb}
pub use Rattle.std.proofs.lemmas.List.{drop_at, get_or_at, length-append, nil_from_length, take_at}
pub use Rattle.std.proofs.lemmas.List.Elements.{All-contains, All-from_recursion, Contains-append_cases, Contains-append_left, Contains-append_right, Contains-push, Contains-push_cases, recursion_from_All}
pub use Rattle.std.proofs.lemmas.Result.{IfOk-weaker, err_from_is_err_and}
pub use Rattle.std.specs.List.{AllByRecursion}
