-- The words of this crate's proofs: what they take from its definitions and from the crates below, under one name each.
pub use Rattle.batch_queue.specs.Numbered.{IsNumbered, group_at, with_all, with_id, without}
pub use Rattle.batch_queue.specs.Queue.{room, settled, waiting}
pub use Rattle.batch_queue.specs.Waiting.{IsOnce, IsUnanswered, answered, has_token, replays, unanswered}
pub use Rattle.event_id.specs.EventId.{is_same as same_id}
pub use Rattle.event_id.specs.declared.id.EventId.{EventId}
pub use Rattle.registry_state.proofs.Learning.{bound_of-push, first_insert-push, succeeded}
pub use Rattle.registry_state.proofs.Tests.{same_id-true, same_token-true}
pub use Rattle.registry_state.specs.LookBack.{bound_of, first_in, replay}
pub use Rattle.registry_state.specs.Same.{same_token}
pub use Rattle.registry_state.specs.declared.Answer.{Answer}
pub use Rattle.registry_state.specs.declared.Batch.{Batch}
pub use Rattle.registry_state.specs.declared.Insert.{Insert}
pub use Rattle.registry_state.specs.declared.Token.{Token}
pub use Rattle.std.proofs.lemmas.Bool.{true≢false}
pub use Rattle.std.proofs.lemmas.List.{append-nil, append_assoc, drop_all, drop_more, length-append}
pub use Rattle.std.proofs.lemmas.List.Filters.{length-filter_both}
pub use Rattle.std.proofs.lemmas.Map.Keys.{IsDistinct-cons, IsDistinct-head, IsDistinct-tail}
pub use Rattle.std.proofs.lemmas.Result.{IfOk-weaker}
pub use Rattle.std.specs.BTreeMap.{insert_entry, is_at}
pub use Rattle.std.specs.Cmp.{nat_cmp_is}
pub use Rattle.std.specs.HashMap.{get}
pub use Rattle.std.specs.HashSet.{contains}
pub use Rattle.std.specs.List.{AllByRecursion, list_any}
pub use Rattle.std.specs.Map.{lookup, remove_entry, values_of}
pub use Rattle.std.specs.Option.{option_map}
pub use Rattle.std.specs.Ordering.{is_eq, match_ordering, nat_cmp}
pub use Rattle.std.specs.declared.cmp.Ordering.{Ordering}
pub use Rattle.std.specs.declared.cmp.Ordering.TheVariants.{Equal, Greater}
