use Rattle.log_records.proofs.Words.{err_from_is_err_and}
use Rattle.log_records.proofs.FirstLines.{keeps_push, told_after}
use Rattle.log_records.proofs.seen.accept.Goals as goal

pub returns-in_err-take_in-clause-why : goal.returns-in_err-take_in-clause-why
returns-in_err-take_in-clause-why g c =
    let found = c.in_ok-id.ensures.found in
    let p = err_from_is_err_and c.from_residual-in_err-take_in.result c.from_residual-in_err-take_in.ensures.1 in
    rw (p.1, p.2) (λ rs keeps. told_after g.R.Record.spelled g.R.Record.own_id g.R.Record.is_record g.R.Record.whys c.args.seen.now rs found.0 c.in_ok-id.id c.args.line.now _ found.1 found.2 found.3 keeps c.in_err-take_in.ensures.why)

pub returns-clause-ok : goal.returns-clause-ok
returns-clause-ok g c =
    let found = c.in_ok-id.ensures.found in (
      found.0,
      found.1,
      found.2,
      λ rs keeps. keeps_push g.R.Record.spelled g.R.Record.own_id c.args.seen.now c.take_in.new.seen rs found.0 c.in_ok-id.id c.args.line.now found.2 found.3 c.in_ok-take_in.ensures.same c.in_ok-take_in.ensures.kept c.in_ok-take_in.ensures.others keeps,
    )
