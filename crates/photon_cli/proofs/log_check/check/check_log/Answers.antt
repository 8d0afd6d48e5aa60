use Rattle.std.proofs.Common.{◌≡◌, ap, ◌∙◌}
use Rattle.log_records.specs.declared.why.Why.TheVariants as why
use Rattle.photon_cli.proofs.CheckedLogs.{all_checked, told_big}
use Rattle.photon_cli.proofs.log_check.check.check_log.Goals as goal

pub returns-in-Ok-true-clause-refused : goal.returns-in-Ok-true-clause-refused
returns-in-Ok-true-clause-refused g c = λ t bad e.
    let own : bad ≡ record { line = c.saturating_add-line.result; why = why.TooBig } = cc in
    let last = ap g.L.LogFile.bytes c.into_log-log.ensures ∙ c.in-Ok.ensures.same t ∙ ap g.L.LogFile.bytes c.new-tail.ensures.log in
    told_big g.K.Record.spelled g.K.Record.is_record g.K.Record.own_id g.K.Record.whys c.args.keep (g.L.LogFile.bytes c.args.log) (g.L.LogFile.bytes c.new-tail.result.log) (g.L.LogFile.bytes c.into_log-log.result) c.in-Ok.lines c.in-Ok-true.field-0 (ap g.L.LogFile.bytes c.new-tail.ensures.log) last (c.in-Ok-true.ensures.big t) (c.in-Ok.ensures.found t) c.saturating_add-line.result bad c.in-Ok-true.field-0-test c.saturating_add-line.ensures own

pub returns-in-Ok-false-clause-found : goal.returns-in-Ok-false-clause-found
returns-in-Ok-false-clause-found g c = λ t.
    let last = ap g.L.LogFile.bytes c.into_log-log.ensures ∙ c.in-Ok.ensures.same t ∙ ap g.L.LogFile.bytes c.new-tail.ensures.log in
    all_checked g.K.Record.spelled g.K.Record.is_record g.K.Record.own_id g.K.Record.whys c.args.keep (g.L.LogFile.bytes c.args.log) (g.L.LogFile.bytes c.new-tail.result.log) (g.L.LogFile.bytes c.into_log-log.result) c.in-Ok.lines c.in-Ok-false.field-0 (ap g.L.LogFile.bytes c.new-tail.ensures.log) last (c.in-Ok-false.ensures.big t) (c.in-Ok.ensures.found t) c.in-Ok-false.field-0-test
