use Rattle.std.proofs.Common.{◌≡◌, ⊎_elim, inl, inr, ℕ, List, Option, Err, ap, subst}
use Rattle.photon_cli.proofs.Words.{values_in, Drills, AreValid, Refuses}
use Rattle.run_fault.specs.declared.fault.RunFault.TheVariants as fault
use Rattle.photon_cli.proofs.Drilling.{more_stops}
use Rattle.photon_cli.proofs.Statuses.{run_past}
use Rattle.photon_cli.proofs.engine.drill.drill_logs.Goals as goal

pub returns-in-Err-drilled_lines-clause-begins : goal.returns-in-Err-drilled_lines-clause-begins
returns-in-Err-drilled_lines-clause-begins g c =
    let v = values_in c.args.wanted.now in
    ⊎_elim (λ early. inl (early.0, inr ((c.in-Ok.table, c.in-Ok.ensures.found), inr early.1))) (λ late. inr (((c.in-Ok.table, c.in-Ok.ensures.found), λ logs. subst (λ (t : List ℕ → Option (List ℕ)). AreValid t v.queries v.clicks) (λ k n. c.plan_in_file.ensures.same logs n k) (late.0 logs), c.in-Ok-plan_in_file.plan, c.in-Ok-plan_in_file.ensures.plan, late.1), run_past c.in-Err-drilled_lines.fault late.2)) c.in-Err-drilled_lines.ensures.begins

pub returns-clause-begins : goal.returns-clause-begins
returns-clause-begins g c =
    let v = values_in c.args.wanted.now in
    ⊎_elim (λ early. absurd early.1) (λ late. inr (((c.in-Ok.table, c.in-Ok.ensures.found), λ logs. subst (λ (t : List ℕ → Option (List ℕ)). AreValid t v.queries v.clicks) (λ k n. c.plan_in_file.ensures.same logs n k) (late.0 logs), c.in-Ok-plan_in_file.plan, c.in-Ok-plan_in_file.ensures.plan, late.1), tt)) c.in-Ok-drilled_lines.ensures.begins

pub returns-in-Ok-write_report-clause-begins : goal.returns-in-Ok-write_report-clause-begins
returns-in-Ok-write_report-clause-begins g c =
    let v = values_in c.args.wanted.now in
    ⊎_elim (λ early. absurd early.1) (λ late. inr (((c.in-Ok.table, c.in-Ok.ensures.found), λ logs. subst (λ (t : List ℕ → Option (List ℕ)). AreValid t v.queries v.clicks) (λ k n. c.plan_in_file.ensures.same logs n k) (late.0 logs), c.in-Ok-plan_in_file.plan, c.in-Ok-plan_in_file.ensures.plan, late.1), tt)) c.in-Ok-drilled_lines.ensures.begins

pub returns-in-Ok-write_report-clause-ran : goal.returns-in-Ok-write_report-clause-ran
returns-in-Ok-write_report-clause-ran g c logs =
    let plan = c.in-Ok-plan_in_file.plan in
    let lines = c.in-Ok-drilled_lines.lines.items in
    let run = subst (λ (t : List ℕ → Option (List ℕ)). Drills t (values_in c.args.wanted.now) plan c.drilled_lines.new.ran.log lines) (λ k n. c.plan_in_file.ensures.same logs n k) (c.in-Ok-drilled_lines.ensures.done logs) in
    (plan, lines, c.in-Ok-plan_in_file.ensures.plan logs, run)

pub returns-in-Err-drilled_lines-clause-refused : goal.returns-in-Err-drilled_lines-clause-refused
returns-in-Err-drilled_lines-clause-refused g c logs log line w e =
    let v = values_in c.args.wanted.now in
    subst (λ (t : List ℕ → Option (List ℕ)). Refuses t v.queries v.clicks log (record { line = line; why = w })) (λ k n. c.plan_in_file.ensures.same logs n k) (let own : c.in-Err-drilled_lines.fault ≡ fault.Refused log line w = cc in c.in-Err-drilled_lines.ensures.refused logs log line w (ap Err own))

pub returns-in-Err-drilled_lines-clause-fair : goal.returns-in-Err-drilled_lines-clause-fair
returns-in-Err-drilled_lines-clause-fair g c logs = more_stops _ _ (λ some. (c.in-Ok-plan_in_file.plan, c.in-Ok-plan_in_file.ensures.plan logs, some)) c.in-Err-drilled_lines.fault (c.in-Err-drilled_lines.ensures.fair logs)
