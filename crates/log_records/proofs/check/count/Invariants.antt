use Rattle.std.proofs.Common.{◌≡◌, List, length}
use Rattle.log_records.proofs.LogWalk.{SoFar}
use Rattle.log_records.proofs.check.count.Given as goal

-- the lines so far are some records, which were counted
abbrev pub invariant-loop-line : goal.invariant-loop-line
invariant-loop-line g l = (rs : List g.row.R.Denot) × SoFar g.R.Record.spelled g.R.Record.is_record g.R.Record.own_id g.R.Record.whys l.log l.rest l.seen rs × (l.lines ≡ length rs)

abbrev pub decreases-loop-line : goal.decreases-loop-line
decreases-loop-line g l = length l.rest
