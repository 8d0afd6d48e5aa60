use Rattle.std.proofs.Common.{arith}
use Rattle.log_records.specs.Report.{line_text}
use Rattle.report_text.proofs.Streams.{text_passed, text_cut, on_err}
use Rattle.report_text.proofs.report.put_lines.Goals as goal

pub returns-in_err-put_line-clause-prefix : goal.returns-in_err-put_line-clause-prefix
returns-in_err-put_line-clause-prefix g c = λ t.
    on_err c.from_residual.result (text_cut line_text c.args.lines.now c.loop-line.line-index c.line-item.result _ _ _ _ _ (omega arith) c.line-item.is (c.loop-line.invariant.passed t) (c.in_err-put_line.ensures.prefix t))

pub loop-line-preserved : goal.loop-line-preserved
loop-line-preserved g c =
    record {
      passed = λ t. text_passed line_text c.args.lines.now c.loop-line.line-index c.line-item.result _ _ _ _ _ _ (omega arith) c.line-item.is (c.loop-line.invariant.passed t) (c.in_ok-put_line.ensures.passed t);
      later = omega (arith, c.put_line.ensures.count.later, c.loop-line.invariant.later);
    }
