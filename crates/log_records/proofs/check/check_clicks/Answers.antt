use Rattle.std.proofs.Common.{ap, length, ◌∙◌}
use Rattle.log_records.proofs.Words.{IfOk-weaker}
use Rattle.log_records.proofs.Reading.{clicks_same}
use Rattle.log_records.proofs.WholeLogs.{clicks_found, clicks_right, only_answer}
use Rattle.log_records.proofs.check.check_clicks.Goals as goal

pub returns-clause-found : goal.returns-clause-found
returns-clause-found c = IfOk-weaker c.count.result _ _ (λ n h. (h.0, clicks_found c.args.log.now h.0 h.1, h.2)) c.count.ensures.found

pub returns-clause-only : goal.returns-clause-only
returns-clause-only c = λ cs is.
    only_answer c.count.result _ _ (IfOk-weaker c.count.result _ _ (λ n h. h.2 ∙ ap length (clicks_same c.args.log.now h.0 cs (clicks_found c.args.log.now h.0 h.1).0 is.0)) c.count.ensures.found) c.count.ensures.refused (λ bad. clicks_right c.args.log.now cs bad is)
