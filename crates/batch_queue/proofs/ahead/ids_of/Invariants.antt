use Rattle.std.proofs.Common.{◌≡◌, ◌||◌, drop, is_some}
use Rattle.batch_queue.proofs.Words.{contains, EventId, same_id, first_in}
use Rattle.batch_queue.proofs.ahead.ids_of.Given as goal

-- the ids so far, and those that are left
abbrev pub invariant-loop-insert : goal.invariant-loop-insert
invariant-loop-insert l = (i : EventId) → (contains same_id l.ids i || is_some (first_in (drop l.insert-index l.insert-items) i)) ≡ is_some (first_in l.batch.inserts i)
