-- A bulk run: the setting that its two logs make, and the totals of its report.
use Rattle.std.proofs.Common.{◌≡◌, ◌⊎◌, ◌≤◌, ◌*◌, ◌^◌, inl, inr, ℕ, List, Option, Some, None, codes, length, map, refl, sym, ap, subst, ◌∙◌, arith}
use Rattle.photon_cli.proofs.Words.{IsSomeAnd, PlanView, Why, IsQueryLog, IsClickLog, HoldsQueries, HoldsClicks, ClickLine, placed, clicks_same, queries_same, ReportLine, distinct, totals, BulkValues, Values, LogName, Setting, IsLogOf, RunLog, RunFault, IsBulkRun, IsBulkSetting, bulk_plan, Drills, IsDrilled, AreValid, IsAsked, Refuses, IsFailedRead, IsOfLogs}
use Rattle.log_records.specs.Report.{line_of}
use Rattle.bulk_logs.specs.Bulk as logs
use Rattle.run_fault.specs.declared.fault.RunFault.TheVariants as fault
use Rattle.photon_cli.proofs.Ends.{none_refused}
use Rattle.photon_cli.proofs.Refusals.{within}
use Rattle.photon_cli.proofs.Runs.{clicks_back}

-- what both sites of a bulk run are run for
abbrev pub values_of : BulkValues → Values
values_of v = record { queries = codes "queries"; clicks = codes "clicks"; horizon = 1000000; nodes = v.nodes }

-- what holds of want of memory and of what was told holds of what is told
pub without : (P : RunFault → Type 0) (f r : RunFault) → ((r ≡ f) × (IsFailedRead f → ⊥)) ⊎ ((r ≡ fault.Memory) × IsFailedRead f) → P fault.Memory → P f → P r
without P f r (inl (same, other)) memory h = subst P (sym same) h
without P f r (inr (same, read)) memory h = subst P (sym same) memory

pub no_read : (f r : RunFault) → ((r ≡ f) × (IsFailedRead f → ⊥)) ⊎ ((r ≡ fault.Memory) × IsFailedRead f) → IsFailedRead r → ⊥
no_read f r h read = grind arith

under : (o : Option (List ℕ)) (log : List ℕ) (P : List ℕ → Type 0) → o ≡ Some log → IsSomeAnd o P → P log
under o log P is = subst (λ (x : Option (List ℕ)). IsSomeAnd x P) is

there : (o : Option (List ℕ)) (log : List ℕ) (P : List ℕ → Type 0) → o ≡ Some log → P log → IsSomeAnd o P
there o log P is p = subst (λ (x : Option (List ℕ)). IsSomeAnd x P) (sym is) p

module _ (told : List ℕ → Option (List ℕ)) (v : BulkValues) (few : v.count ≤ 100000)
    (query_log : told (codes "queries") ≡ Some (logs.query_log v.seed v.count)) (click_log : told (codes "clicks") ≡ Some (logs.click_log v.seed v.count))
    (of_queries : (seed n : ℕ) → n ≤ 100000 → HoldsQueries (logs.query_log seed n) (logs.queries seed n)) (of_clicks : (seed n : ℕ) → n ≤ 100000 → HoldsClicks (logs.click_log seed n) (logs.clicks seed n)) where
  pub made : (g : Setting) → IsAsked told (values_of v) g → IsBulkSetting v g
  made g asked =
      let log : IsLogOf (logs.click_log v.seed v.count) g = under (told (codes "clicks")) (logs.click_log v.seed v.count) (λ l. IsLogOf l g) click_log asked.setting.clicks_are in
      let clicks : log.lines.clicks ≡ logs.clicks v.seed v.count = clicks_same (logs.click_log v.seed v.count) log.lines.clicks (logs.clicks v.seed v.count) log.lines.holds (of_clicks v.seed v.count few) in
      record {
        queries = queries_same (logs.query_log v.seed v.count) g.queries (logs.queries v.seed v.count) (under (told (codes "queries")) (logs.query_log v.seed v.count) (λ l. IsQueryLog l g.queries) query_log asked.setting.queries_are).0 (of_queries v.seed v.count few);
        clicks = log.lines.lines ∙ ap (placed 0) clicks;
        table = asked.table;
        config = asked.setting.numbers;
      }

  pub made_valid : ((seed n : ℕ) → n ≤ 2 ^ 32 → length (logs.query_log seed n) ≤ 37 * n) → ((seed n : ℕ) → n ≤ 2 ^ 32 → length (logs.click_log seed n) ≤ 62 * n) → AreValid told (codes "queries") (codes "clicks")
  made_valid query_size click_size =
      let q = query_size v.seed v.count (omega (arith, few)) in
      let c = click_size v.seed v.count (omega (arith, few)) in (
        logs.queries v.seed v.count,
        logs.clicks v.seed v.count,
        record {
          query = there (told (codes "queries")) (logs.query_log v.seed v.count) (λ l. IsQueryLog l (logs.queries v.seed v.count)) query_log (of_queries v.seed v.count few, omega (arith, few, q));
          click = there (told (codes "clicks")) (logs.click_log v.seed v.count) (λ l. IsClickLog l (logs.clicks v.seed v.count)) click_log (of_clicks v.seed v.count few, omega (arith, few, c));
        },
      )

  -- what may be wrong with the logs of such a run is want of memory, where no failed read is told
  pub bulk_early : AreValid told (codes "queries") (codes "clicks") → (f r : RunFault) → ((log : LogName) (line : ℕ) (w : Why) → f ≡ fault.Refused log line w → Refuses told (codes "queries") (codes "clicks") log (record { line = line; why = w }))
      → ((r ≡ f) × (IsFailedRead f → ⊥)) ⊎ ((r ≡ fault.Memory) × IsFailedRead f) → IsOfLogs f → r ≡ fault.Memory
  bulk_early valid f r refuses (inr (memory, read)) early = memory
  bulk_early valid f r refuses (inl (same, other)) (log, inl (line, w, e)) = absurd (none_refused told (codes "queries") (codes "clicks") log (record { line = line; why = w }) valid (refuses log line w e))
  bulk_early valid f r refuses (inl (same, other)) (log, inr (inl e)) = absurd (other (inr (log, e)))
  bulk_early valid f r refuses (inl (same, other)) (log, inr (inr e)) = same ∙ e

  -- the run, and the totals of its lines
  pub bulk_run : (plan : PlanView) (ran : Option RunLog) (lines : List ReportLine) → plan ≡ bulk_plan → Drills told (values_of v) plan ran lines → IsSomeAnd ran (IsBulkRun v)
  bulk_run plan ran lines is (g, asked, run) =
      within ran (IsDrilled g plan lines) (IsBulkRun v) (λ log drilled. record { setting = g; made = made g asked; lines = lines; run = subst (λ (p : PlanView). IsDrilled g p lines log) is drilled }) run

  lines_made : (ran : Option RunLog) (lines : List ReportLine) (g : Setting) → IsAsked told (values_of v) g → IsSomeAnd ran (IsDrilled g bulk_plan lines) → lines ≡ logs.lines v.seed v.count
  lines_made None lines g asked run = absurd run
  lines_made (Some log) lines g asked run =
      let m = made g asked in
      let clicks : map (λ (l : ClickLine). l.click) g.clicks ≡ logs.clicks v.seed v.count = ap (map (λ (l : ClickLine). l.click)) m.clicks ∙ clicks_back 0 (logs.clicks v.seed v.count) in
      run.whole refl ∙ (λ k. map (line_of (m.queries k) (m.config k).horizon) (distinct (clicks k)))

  pub bulk_totals : (plan : PlanView) (ran : Option RunLog) (lines : List ReportLine) → plan ≡ bulk_plan → ((seed n : ℕ) → n ≤ 100000 → totals (logs.lines seed n) ≡ logs.totals_made n) → Drills told (values_of v) plan ran lines
      → totals lines ≡ logs.totals_made v.count
  bulk_totals plan ran lines is law (g, asked, run) =
      ap totals (lines_made ran lines g asked (subst (λ (p : PlanView). IsSomeAnd ran (IsDrilled g p lines)) is run)) ∙ law v.seed v.count few
