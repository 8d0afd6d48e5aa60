use Rattle.std.proofs.Common.{inr, length, arith}
use Rattle.log_records.proofs.Words.{line_feed}
use Rattle.log_records.specs.declared.why.Why.TheVariants as why
use Rattle.list_words.proofs.Cuts.{front_lacks, none_lacks}
use Rattle.log_records.proofs.LogWalk.{number_fits, ends, too_big, line_too_big, line_bad, told_as}
use Rattle.log_records.proofs.check.count.Goals as goal

pub bad-requires : goal.bad-requires
bad-requires g c = omega (arith, number_fits g.R.Record.spelled g.R.Record.is_record g.R.Record.own_id g.R.Record.whys c.args.log.now c.loop-line.rest.now c.loop-line.seen c.loop-line.invariant.0 c.loop-line.invariant.1)

pub bad-requires-in-Err : goal.bad-requires-in-Err
bad-requires-in-Err g c = omega (arith, number_fits g.R.Record.spelled g.R.Record.is_record g.R.Record.own_id g.R.Record.whys c.args.log.now c.loop-line.rest.now c.loop-line.seen c.loop-line.invariant.0 c.loop-line.invariant.1)

pub overflow_add-lines : goal.overflow_add-lines
overflow_add-lines g c = omega (arith, number_fits g.R.Record.spelled g.R.Record.is_record g.R.Record.own_id g.R.Record.whys c.args.log.now c.loop-line.rest.now c.loop-line.seen c.loop-line.invariant.0 c.loop-line.invariant.1)

pub bad-requires-then-log-gt-MAX_LOG : goal.bad-requires-then-log-gt-MAX_LOG
bad-requires-then-log-gt-MAX_LOG g c = omega (arith, number_fits g.R.Record.spelled g.R.Record.is_record g.R.Record.own_id g.R.Record.whys c.args.log.now c.loop-line.rest.now c.loop-line.seen c.loop-line.invariant.0 c.loop-line.invariant.1)

pub returns-then-log-after-gt-MAX_LOG-clause-refused : goal.returns-then-log-after-gt-MAX_LOG-clause-refused
returns-then-log-after-gt-MAX_LOG-clause-refused g c = told_as g.R.Record.spelled g.R.Record.is_record g.R.Record.own_id g.R.Record.whys c.args.log.now c.bad.result c.loop-line.lines (length c.loop-line.invariant.0) why.TooBig c.bad.ensures c.loop-line.invariant.2 (inr (line_too_big g.R.Record.spelled g.R.Record.is_record g.R.Record.own_id g.R.Record.whys c.args.log.now c.loop-line.rest.now c.loop-line.seen c.loop-line.invariant.0 c.loop-line.invariant.1 c.in-Some.line.now c.in-Some.after.now c.in-Some.ensures.found (front_lacks line_feed c.in-Some.line.now c.loop-line.rest.now c.in-Some.ensures.parts.0) c.if-log-after-gt-MAX_LOG.true))

pub returns-in-Err-clause-refused : goal.returns-in-Err-clause-refused
returns-in-Err-clause-refused g c = told_as g.R.Record.spelled g.R.Record.is_record g.R.Record.own_id g.R.Record.whys c.args.log.now c.bad-in-Err.result c.loop-line.lines (length c.loop-line.invariant.0) c.in-Err.why c.bad-in-Err.ensures c.loop-line.invariant.2 (line_bad g.R.Record.spelled g.R.Record.is_record g.R.Record.own_id g.R.Record.whys c.args.log.now c.loop-line.rest.now c.loop-line.seen c.loop-line.invariant.0 c.loop-line.invariant.1 c.in-Some.line.now c.in-Some.after.now c.in-Some.ensures.found c.in-Err.why (front_lacks line_feed c.in-Some.line.now c.loop-line.rest.now c.in-Some.ensures.parts.0) c.if-log-after-gt-MAX_LOG.false (c.in-Err.ensures.why c.loop-line.invariant.0 c.loop-line.invariant.1.keeps))

pub returns-then-log-gt-MAX_LOG-clause-refused : goal.returns-then-log-gt-MAX_LOG-clause-refused
returns-then-log-gt-MAX_LOG-clause-refused g c = told_as g.R.Record.spelled g.R.Record.is_record g.R.Record.own_id g.R.Record.whys c.args.log.now c.bad-then-log-gt-MAX_LOG.result c.loop-line.lines (length c.loop-line.invariant.0) why.TooBig c.bad-then-log-gt-MAX_LOG.ensures c.loop-line.invariant.2 (inr (too_big g.R.Record.spelled g.R.Record.is_record g.R.Record.own_id g.R.Record.whys c.args.log.now c.loop-line.rest.now c.loop-line.seen c.loop-line.invariant.0 c.loop-line.invariant.1 (none_lacks line_feed c.loop-line.rest.now c.in_default.ensures.none) c.if-log-gt-MAX_LOG.true))

pub returns-clause-found : goal.returns-clause-found
returns-clause-found g c = (c.loop-line.invariant.0, ends g.R.Record.spelled g.R.Record.is_record g.R.Record.own_id g.R.Record.whys c.args.log.now c.loop-line.rest.now c.loop-line.seen c.loop-line.invariant.0 c.loop-line.invariant.1 (none_lacks line_feed c.loop-line.rest.now c.in_default.ensures.none) c.if-log-gt-MAX_LOG.false, c.loop-line.invariant.2)
