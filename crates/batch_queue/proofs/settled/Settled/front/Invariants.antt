use Rattle.std.proofs.Common.{◌≡◌, ◌++◌, take}
use Rattle.batch_queue.proofs.Words.{values_of, settled}
use Rattle.batch_queue.proofs.settled.Settled.front.Given as goal

-- those so far, and those that are left
abbrev pub invariant-loop-insert : goal.invariant-loop-insert
invariant-loop-insert l = l.inserts ++ take l.insert-iterator.n (values_of l.insert-iterator.iter) ≡ take l.count (settled l.self)
