use Rattle.std.proofs.lemmas.Result.{on_err_weaker}
use Rattle.report_text.proofs.Streams.{from_empty, left_part}
use Rattle.report_text.proofs.report.write_totals.Goals as goal

pub returns-clause-prefix : goal.returns-clause-prefix
returns-clause-prefix g c = λ t. on_err_weaker c.flush.result (left_part _ _ _ _ _ (from_empty _ _ _ _ _ c.new-buffer.ensures (c.in_ok-put_totals.ensures.passed t))) (c.flush.ensures.prefix t)
