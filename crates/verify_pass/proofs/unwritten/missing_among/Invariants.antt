use Rattle.std.proofs.Common.{◌≡◌, take}
use Rattle.verify_pass.proofs.Words.{flat_map, missing_id, unboxed}
use Rattle.verify_pass.proofs.unwritten.missing_among.Given as goal

-- the missing ones of the lines so far
abbrev pub invariant-loop-line : goal.invariant-loop-line
invariant-loop-line l = l.left.items ≡ flat_map missing_id (unboxed (take l.line-index l.lines))
