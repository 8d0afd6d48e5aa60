use Rattle.std.proofs.Common.{◌≡◌, take}
use Rattle.report_text.specs.Totals.{totals_of}
use Rattle.report_text.proofs.totals.Totals.of.Given as goal

-- the lines so far are counted
abbrev pub invariant-loop-line : goal.invariant-loop-line
invariant-loop-line l = l.totals ≡ totals_of (take l.line-index l.lines)
