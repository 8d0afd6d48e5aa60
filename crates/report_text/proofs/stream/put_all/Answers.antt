use Rattle.std.proofs.Common.{[], get_or, arith}
use Rattle.report_text.proofs.Streams.{text_passed, text_cut, get_or_itself, on_err}
use Rattle.report_text.proofs.stream.put_all.Goals as goal

pub returns-in_err-put-clause-prefix : goal.returns-in_err-put-clause-prefix
returns-in_err-put-clause-prefix g c = λ t.
    let parts = c.args.parts.now in
    let k = c.loop-part.part-index in
    on_err c.from_residual.result (text_cut (λ p. p.now) parts k (get_or parts k (record { ref_ptr = (0, 0); now = [] })) _ _ _ _ _ (omega arith) (get_or_itself parts k _ (omega arith)) (c.loop-part.invariant.passed t) (c.in_err-put.ensures.prefix t))

pub loop-part-preserved : goal.loop-part-preserved
loop-part-preserved g c =
    let parts = c.args.parts.now in
    let k = c.loop-part.part-index in
    record {
      passed = λ t. text_passed (λ p. p.now) parts k (get_or parts k (record { ref_ptr = (0, 0); now = [] })) _ _ _ _ _ _ (omega arith) (get_or_itself parts k _ (omega arith)) (c.loop-part.invariant.passed t) (c.in_ok-put.ensures.passed t);
      later = omega (arith, c.put.ensures.count.later, c.loop-part.invariant.later);
    }
