use Rattle.verify_pass.proofs.Words.{TakesIn, unboxed}
use Rattle.verify_pass.proofs.lines.join_log.Given as goal

-- the pairs so far are taken in
abbrev pub invariant-loop-pair : goal.invariant-loop-pair
invariant-loop-pair l = TakesIn l.yielded (unboxed l.fn.lines.items) (unboxed l.lines.items)
