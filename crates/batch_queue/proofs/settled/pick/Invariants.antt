use Rattle.std.proofs.Common.{◌≡◌, drop}
use Rattle.batch_queue.proofs.Words.{with_all}
use Rattle.batch_queue.proofs.settled.pick.Given as goal

-- what is picked, and what is left to pick
abbrev pub invariant-loop-number : goal.invariant-loop-number
invariant-loop-number l = with_all (drop l.number-index l.more) l.picked.entries ≡ with_all l.more l.initial.picked.entries
