-- What the entries around an id say of the lines between them.
use Rattle.std.proofs.Common.{◌≡◌, ℕ, ◌<◌, ◌≤◌, true, List, Option, Some, None, IfSome, arith}
use Rattle.event_store.proofs.Words.{EventId, same_process, Mark, entry_of, Falls, IsStray, IsSegment}
use Rattle.event_store.proofs.Marking.{entry_first, from_entry, before_entry, has_entry}

pub segment_some : (marks : List Mark) (place : ℕ) (id : EventId) (s : ℕ) (end_ : Option ℕ) → Falls place marks → (k : EventId) × (same_process k id ≡ true) × (k.micros ≤ id.micros) × (entry_of marks k ≡ Some s) → IfSome end_ (λ e. (k : EventId) × (same_process k id ≡ true) × (id.micros < k.micros) × (entry_of marks k ≡ Some e)) → IsSegment marks id s end_
segment_some marks place id s end_ falls lo hi = grind (arith, from_entry, before_entry, entry_first)

pub segment_none : (marks : List Mark) (id : EventId) → ((k : EventId) → same_process k id ≡ true → k.micros ≤ id.micros → entry_of marks k ≡ None) → IsStray marks id
segment_none marks id none f first = grind (arith, has_entry)
