use Rattle.std.proofs.Common.{◌≡◌, List, [], ◌∷◌, ◌++◌}
use Rattle.batch_queue.proofs.Words.{values_of, Batch, answered, replays}
use Rattle.batch_queue.proofs.ahead.answered_in.Given as goal

-- those so far, and those that are left
abbrev pub invariant-loop-insert : goal.invariant-loop-insert
invariant-loop-insert g l = (applied : List Batch) → g.R.Replays.knows l.registry applied
    → l.all.items ++ answered (replays (applied ++ l.batch ∷ [])) (values_of l.insert-iterator) ≡ answered (replays (applied ++ l.batch ∷ [])) (values_of l.inserts.entries)
