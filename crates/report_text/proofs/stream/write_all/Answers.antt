use Rattle.std.proofs.Common.{◌-◌, length, drop, ◌∙◌, arith}
use Rattle.std.proofs.lemmas.List.{length-take}
use Rattle.report_text.proofs.Streams.{took_more, took_front, on_err}
use Rattle.report_text.proofs.stream.write_all.Goals as goal

pub loop-done-preserved : goal.loop-done-preserved
loop-done-preserved g c =
    let bytes = c.args.bytes.now in
    let done = c.loop-done.done in
    record {
      within = omega (arith, c.in_ok-done.ensures.fits, length-take (length bytes - done) (drop done bytes));
      held = λ t. c.in_ok-done.ensures.held t ∙ took_more _ _ bytes done c.in_ok-done.field-0 (c.loop-done.invariant.held t) c.in_ok-done.ensures.fits;
      later = omega (arith, c.write.ensures.count.later, c.loop-done.invariant.later);
    }

pub returns-in_err-done-clause-prefix : goal.returns-in_err-done-clause-prefix
returns-in_err-done-clause-prefix g c = λ t. on_err c.from_residual.result (took_front _ _ _ c.loop-done.done (c.in_err-done.ensures.err t ∙ c.loop-done.invariant.held t))
