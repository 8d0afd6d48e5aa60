use Rattle.std.proofs.Common.{ap, ◌∙◌}
use Rattle.site_store.proofs.Words.{limit_in, kept_all, values_of}
use Rattle.site_store.proofs.Causes.{none_is, passed_for, limit_for}
use Rattle.site_store.proofs.opening.judging.judge.Goals as goal

pub returns-in-Ok-None-clause-passed : goal.returns-in-Ok-None-clause-passed
returns-in-Ok-None-clause-passed g c =
    let fit = none_is c.other.result _ c.in_default.not-Some c.other.ensures in
    let places = rw (c.in-Ok-None.field-0-is, c.deref.ensures.value) at c.in-Ok-None.ensures.first in
    passed_for _ _ _ _ _ fit places c.first_limit.result (c.first_limit.ensures ∙ ap (λ xs. limit_in (kept_all xs)) c.deref-in-Ok-None.ensures.value)

pub returns-in-Ok-None-clause-cause : goal.returns-in-Ok-None-clause-cause
returns-in-Ok-None-clause-cause g c =
    let fit = none_is c.other.result _ c.in_default.not-Some c.other.ensures in
    let places = rw (c.in-Ok-None.field-0-is, c.deref.ensures.value) at c.in-Ok-None.ensures.first in
    limit_for _ _ _ _ (values_of c.args.opened.now.topology.value.kept c.args.opened.now.disks.items) fit places _ c.first_limit.result (c.first_limit.ensures ∙ ap (λ xs. limit_in (kept_all xs)) c.deref-in-Ok-None.ensures.value)
