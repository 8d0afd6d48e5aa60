use Rattle.std.proofs.lemmas.Result.{on_err_weaker, on_ok_weaker}
use Rattle.report_text.proofs.Streams.{passes, passes_part, longer, from_empty, part_from_empty, left_sent, left_part, on_err}
use Rattle.report_text.proofs.report.write_report.Goals as goal

pub returns-in_err-put_lines-clause-prefix : goal.returns-in_err-put_lines-clause-prefix
returns-in_err-put_lines-clause-prefix g c = λ t. on_err c.from_residual.result (longer _ _ _ _ (part_from_empty _ _ _ _ c.new-buffer.ensures (c.in_err-put_lines.ensures.prefix t)))

pub returns-in_err-put_totals-clause-prefix : goal.returns-in_err-put_totals-clause-prefix
returns-in_err-put_totals-clause-prefix g c = λ t. on_err c.from_residual-in_err-put_totals.result (passes_part _ _ _ _ _ _ (from_empty _ _ _ _ _ c.new-buffer.ensures (c.in_ok-put_lines.ensures.passed t)) (c.in_err-put_totals.ensures.prefix t))

pub returns-clause-all : goal.returns-clause-all
returns-clause-all g c = λ t.
    on_ok_weaker c.flush.result (left_sent _ _ _ _ _ (passes _ _ _ _ _ _ _ (from_empty _ _ _ _ _ c.new-buffer.ensures (c.in_ok-put_lines.ensures.passed t)) (c.in_ok-put_totals.ensures.passed t))) (c.flush.ensures.all t)

pub returns-clause-prefix : goal.returns-clause-prefix
returns-clause-prefix g c = λ t.
    on_err_weaker c.flush.result (left_part _ _ _ _ _ (passes _ _ _ _ _ _ _ (from_empty _ _ _ _ _ c.new-buffer.ensures (c.in_ok-put_lines.ensures.passed t)) (c.in_ok-put_totals.ensures.passed t))) (c.flush.ensures.prefix t)
