use Rattle.verify_pass.proofs.Words.{TakesIn, flat_map, unboxed}
use Rattle.verify_pass.proofs.lines.join_all.Given as goal

-- the logs so far are taken in
abbrev pub invariant-loop-log : goal.invariant-loop-log
invariant-loop-log l = TakesIn (flat_map (λ pairs. pairs) l.yielded) (unboxed l.fn.lines.items) (unboxed l.lines.items)
