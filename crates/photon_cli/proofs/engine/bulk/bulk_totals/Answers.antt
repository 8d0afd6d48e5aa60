use Rattle.std.proofs.Common.{◌++◌, ℕ, List, Option, Err, inl, inr, ⊎_elim, refl, ap, subst, ◌∙◌, IfSome}
use Rattle.photon_cli.proofs.Words.{PlanView, bytes_under, ReportLine, totals, TookPrefix, bulk_values, IsHeardOf, IsOfDrill, IsPast}
use Rattle.photon_cli.proofs.Bulking.{bulk_early, bulk_run, bulk_totals, made_valid, without}
use Rattle.photon_cli.proofs.Drilling.{more_stops, no_stops}
use Rattle.photon_cli.proofs.Statuses.{run_past}
use Rattle.photon_cli.proofs.engine.bulk.bulk_totals.Goals as goal

pub returns-in-Err-drilled_lines-clause-begins : goal.returns-in-Err-drilled_lines-clause-begins
returns-in-Err-drilled_lines-clause-begins g c =
    let v = bulk_values c.args.wanted.now in
    let few = c.requires.ranges.count in
    let told : List ℕ → Option (List ℕ) = λ n. bytes_under c.in-Ok-bulk_files.files.files.items n in
    let queries = c.in-Ok-bulk_files.ensures.queries in
    let clicks = c.in-Ok-bulk_files.ensures.clicks in
    let valid = made_valid told v few queries clicks c.valid_logs.ensures.queries c.valid_logs.ensures.clicks c.sizes.ensures.queries c.sizes.ensures.clicks in
    let f = c.in-Err-drilled_lines.fault in
    let memory = bulk_early told v few queries clicks c.valid_logs.ensures.queries c.valid_logs.ensures.clicks valid f c.without_reads.result (λ log line w e. c.in-Err-drilled_lines.ensures.refused refl log line w (ap Err e)) c.without_reads.ensures in
    ⊎_elim (λ early. inl (early.0, inr ((c.in-Ok.table, c.in-Ok.ensures.found), memory early.1))) (λ late. inr (((c.in-Ok.table, c.in-Ok.ensures.found), subst (λ (p : PlanView). IfSome c.drilled_lines.new.ran.log (IsHeardOf p c.args.wanted.now.nodes.joiners)) c.in-Ok-bulk_plan.ensures late.1), without IsPast f c.without_reads.result c.without_reads.ensures tt (run_past f late.2))) c.in-Err-drilled_lines.ensures.begins

pub returns-in-Err-drilled_lines-clause-fair : goal.returns-in-Err-drilled_lines-clause-fair
returns-in-Err-drilled_lines-clause-fair g c =
    let f = c.in-Err-drilled_lines.fault in
    without (IsOfDrill ⊥) f c.without_reads.result c.without_reads.ensures tt (more_stops _ ⊥ (no_stops _ _ (ap (λ (p : PlanView). p.stops) c.in-Ok-bulk_plan.ensures)) f (c.in-Err-drilled_lines.ensures.fair refl))

pub returns-clause-begins : goal.returns-clause-begins
returns-clause-begins g c = ⊎_elim (λ early. absurd early.1) (λ late. inr (((c.in-Ok.table, c.in-Ok.ensures.found), subst (λ (p : PlanView). IfSome c.drilled_lines.new.ran.log (IsHeardOf p c.args.wanted.now.nodes.joiners)) c.in-Ok-bulk_plan.ensures late.1), tt)) c.in-Ok-drilled_lines.ensures.begins

pub returns-in-Ok-write_totals-clause-begins : goal.returns-in-Ok-write_totals-clause-begins
returns-in-Ok-write_totals-clause-begins g c = ⊎_elim (λ early. absurd early.1) (λ late. inr (((c.in-Ok.table, c.in-Ok.ensures.found), subst (λ (p : PlanView). IfSome c.drilled_lines.new.ran.log (IsHeardOf p c.args.wanted.now.nodes.joiners)) c.in-Ok-bulk_plan.ensures late.1), tt)) c.in-Ok-drilled_lines.ensures.begins

pub returns-in-Ok-write_totals-clause-ran : goal.returns-in-Ok-write_totals-clause-ran
returns-in-Ok-write_totals-clause-ran g c =
    let v = bulk_values c.args.wanted.now in
    let few = c.requires.ranges.count in
    let told : List ℕ → Option (List ℕ) = λ n. bytes_under c.in-Ok-bulk_files.files.files.items n in
    let queries = c.in-Ok-bulk_files.ensures.queries in
    let clicks = c.in-Ok-bulk_files.ensures.clicks in
    bulk_run told v few queries clicks c.valid_logs.ensures.queries c.valid_logs.ensures.clicks c.in-Ok-bulk_plan.plan c.drilled_lines.new.ran.log c.in-Ok-drilled_lines.lines.items c.in-Ok-bulk_plan.ensures (c.in-Ok-drilled_lines.ensures.done refl)

pub returns-in-Ok-write_totals-clause-done : goal.returns-in-Ok-write_totals-clause-done
returns-in-Ok-write_totals-clause-done g c sinks =
    let v = bulk_values c.args.wanted.now in
    let few = c.requires.ranges.count in
    let told : List ℕ → Option (List ℕ) = λ n. bytes_under c.in-Ok-bulk_files.files.files.items n in
    let queries = c.in-Ok-bulk_files.ensures.queries in
    let clicks = c.in-Ok-bulk_files.ensures.clicks in
    let run = c.in-Ok-drilled_lines.ensures.done refl in
    let lines = c.in-Ok-drilled_lines.lines.items in
    let plan = c.in-Ok-bulk_plan.plan in
    let sums = bulk_totals told v few queries clicks c.valid_logs.ensures.queries c.valid_logs.ensures.clicks plan c.drilled_lines.new.ran.log lines c.in-Ok-bulk_plan.ensures c.report_kinds.ensures.totals run in
    let written = c.in-Ok-write_totals.ensures.all sinks ∙ ap (λ (ls : List ReportLine). g.K.Sink.held c.args.out.now ++ totals ls) c.deref.ensures.value ∙ ap (λ (t : List ℕ). g.K.Sink.held c.args.out.now ++ t) sums in
    (bulk_run told v few queries clicks c.valid_logs.ensures.queries c.valid_logs.ensures.clicks plan c.drilled_lines.new.ran.log lines c.in-Ok-bulk_plan.ensures run, written)

pub returns-clause-prefix : goal.returns-clause-prefix
returns-clause-prefix g c sinks e =
    let v = bulk_values c.args.wanted.now in
    let few = c.requires.ranges.count in
    let told : List ℕ → Option (List ℕ) = λ n. bytes_under c.in-Ok-bulk_files.files.files.items n in
    let queries = c.in-Ok-bulk_files.ensures.queries in
    let clicks = c.in-Ok-bulk_files.ensures.clicks in
    let run = c.in-Ok-drilled_lines.ensures.done refl in
    let lines = c.in-Ok-drilled_lines.lines.items in
    let plan = c.in-Ok-bulk_plan.plan in
    let sums = bulk_totals told v few queries clicks c.valid_logs.ensures.queries c.valid_logs.ensures.clicks plan c.drilled_lines.new.ran.log lines c.in-Ok-bulk_plan.ensures c.report_kinds.ensures.totals run in
    let took = subst (λ (t : List ℕ). TookPrefix (g.K.Sink.held c.args.out.now) t (g.K.Sink.held c.write_totals.new.sink)) (ap totals c.deref.ensures.value ∙ sums) (c.in-Err-write_totals.ensures.prefix sinks) in
    (bulk_run told v few queries clicks c.valid_logs.ensures.queries c.valid_logs.ensures.clicks plan c.drilled_lines.new.ran.log lines c.in-Ok-bulk_plan.ensures run, took)
