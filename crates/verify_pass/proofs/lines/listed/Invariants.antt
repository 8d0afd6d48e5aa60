use Rattle.std.proofs.Common.{◌≡◌}
use Rattle.verify_pass.proofs.Words.{unboxed}
use Rattle.verify_pass.proofs.lines.listed.Given as goal

-- the lines so far
abbrev pub invariant-loop-line : goal.invariant-loop-line
invariant-loop-line l = l.lines.items ≡ unboxed l.yielded
