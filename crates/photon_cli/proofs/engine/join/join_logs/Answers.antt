use Rattle.std.proofs.Common.{IsTrue, ◌++◌, List, Some, inr, Err, sym, ap, subst, ◌∙◌}
use Rattle.photon_cli.proofs.Words.{⊤, BeginsJoin, Config, HaveIds, IfSome, IsAsked, IsHistory, IsSettingOf, PlanView, Rose, ReportLine, Setting, text_of, TookPrefix, IsLate, TellsPlaces, asked_of, rose_before, counted_more, welcome_where, values_in, IsHeardOf, no_plan}
use Rattle.photon_cli.proofs.Causing.{log_caused}
use Rattle.photon_cli.proofs.Overs.{before_all, before_table, on_err, on_fault, on_ok, read_later}
use Rattle.photon_cli.proofs.Runs.{began, history, if_history, is_asked, joined, joined_afresh, placed_ids, run_setting, setting_of}
use Rattle.photon_cli.proofs.Statuses.{log_fair, run_past}
use Rattle.site_run.specs.Heard as site
use Rattle.photon_cli.proofs.engine.join.join_logs.Given.{Over}
use Rattle.photon_cli.proofs.engine.join.join_logs.Goals as goal
use Rattle.photon_cli.proofs.engine.join.join_logs.Goals.{After-run_sites}

-- the setting that is asked for is the run's
of_run : (g : Over) (c : After-run_sites g) → IsTrue g.F.Log.LogFile.tells → (s : Setting) → IsAsked (g.F.Source.bytes c.args.files.now) (values_in c.args.wanted.now) s
    → IsSettingOf (g.F.Source.bytes c.checked_logs.new.files) c.args.wanted.now.queries.now c.args.wanted.now.clicks.now c.config_in-config.result c.in-Ok-checked_logs.clicks.end s
of_run g c logs s asked =
    run_setting (g.F.Source.bytes c.args.files.now) (g.F.Source.bytes c.checked_logs.new.files) (values_in c.args.wanted.now) c.in-Ok.table _ c.config_in-config.ensures.config c.in-Ok-checked_logs.clicks.end s asked c.in-Ok.ensures.found (c.in-Ok-checked_logs.ensures.same logs) (c.in-Ok-checked_logs.ensures.end logs)

-- the setting of the records that were read
read_setting : (g : Over) (c : After-run_sites g) → IsTrue g.F.Log.LogFile.tells → (s : Setting) × IsAsked (g.F.Source.bytes c.args.files.now) (values_in c.args.wanted.now) s × HaveIds s c.in-Ok-checked_logs.clicks.ids.items
read_setting g c logs =
    let v = values_in c.args.wanted.now in
    let x = c.in-Ok-checked_logs.ensures.valid logs in
    (setting_of v c.in-Ok.table x.0 x.1, is_asked (g.F.Source.bytes c.args.files.now) v c.in-Ok.table x.0 x.1 c.in-Ok.ensures.found x.2, placed_ids c.in-Ok-checked_logs.clicks.ids.items x.1 x.3)

begun : (g : Over) (c : After-run_sites g) → BeginsJoin g.F.Log.LogFile.tells (g.F.Source.bytes c.args.files.now) (values_in c.args.wanted.now) c.run_sites.new.ran.log
begun g c =
    let ours = subst (λ (p : PlanView). IfSome c.run_sites.new.ran.log (IsHeardOf p c.args.wanted.now.nodes.joiners)) c.empty-plan.ensures (subst (λ (k : Config). IfSome c.run_sites.new.ran.log (site.IsHeardOf c.empty-plan.result k.joiners k.replicas)) c.config_in-config.ensures.config c.run_sites.ensures.heard) in
    ((c.in-Ok.table, c.in-Ok.ensures.found), (λ logs. let x = c.in-Ok-checked_logs.ensures.valid logs in (x.0, x.1, x.2)), ours)

left_of : (g : Over) (c : After-run_sites g) → IsTrue g.S.Disk.Disk.tells → IsTrue g.F.Log.LogFile.tells → (s : Setting) → IsAsked (g.F.Source.bytes c.args.files.now) (values_in c.args.wanted.now) s
    → IfSome c.run_sites.new.ran.log (IsHistory s (g.S.Store.image c.args.store.now) (g.S.Store.image c.run_sites.new.store) no_plan)
left_of g c disks logs s asked = if_history c.run_sites.new.ran.log s _ _ no_plan _ (ap (λ k. k.joiners) asked.setting.numbers) (c.run_sites.ensures.over disks logs s (of_run g c logs s asked)).left (begun g c).2

-- the logs' faults were counted from before they were checked
rose : (g : Over) (c : After-run_sites g) → Rose (g.F.Source.faults c.checked_logs.new.files) (g.F.Source.faults c.run_sites.new.files) → Rose (g.F.Source.faults c.args.files.now) (g.F.Source.faults c.run_sites.new.files)
rose g c = rose_before (g.F.Source.faults c.args.files.now) (g.F.Source.faults c.checked_logs.new.files) (g.F.Source.faults c.run_sites.new.files) c.checked_logs.ensures.count.later

pub returns-in-Err-run_sites-clause-begins : goal.returns-in-Err-run_sites-clause-begins
returns-in-Err-run_sites-clause-begins g c =
    inr (begun g (goal.at.returns-in-Err-run_sites-clause-begins g c).After-run_sites, run_past c.in-Err-run_sites.fault (counted_more c.in-Err-run_sites.fault _ _ ⊤ ⊤ (λ rose. tt) (λ rose. tt) c.in-Err-run_sites.ensures.cause))

pub returns-in-Err-run_sites-clause-history : goal.returns-in-Err-run_sites-clause-history
returns-in-Err-run_sites-clause-history g c disks logs s asked = inr (left_of g (goal.at.returns-in-Err-run_sites-clause-history g c).After-run_sites disks logs s asked)

pub returns-in_default-clause-begins : goal.returns-in_default-clause-begins
returns-in_default-clause-begins g c = inr (begun g (goal.at.returns-in_default-clause-begins g c).After-run_sites, tt)

pub returns-in_default-clause-history : goal.returns-in_default-clause-history
returns-in_default-clause-history g c disks logs s asked = inr (left_of g (goal.at.returns-in_default-clause-history g c).After-run_sites disks logs s asked)

pub returns-clause-begins : goal.returns-clause-begins
returns-clause-begins g c = inr (begun g (goal.at.returns-clause-begins g c).After-run_sites, tt)

pub returns-clause-history : goal.returns-clause-history
returns-clause-history g c disks logs s asked = inr (left_of g (goal.at.returns-clause-history g c).After-run_sites disks logs s asked)

pub returns-in-Ok-write_report-clause-begins : goal.returns-in-Ok-write_report-clause-begins
returns-in-Ok-write_report-clause-begins g c = inr (begun g (goal.at.returns-in-Ok-write_report-clause-begins g c).After-run_sites, tt)

pub returns-in-Ok-write_report-clause-history : goal.returns-in-Ok-write_report-clause-history
returns-in-Ok-write_report-clause-history g c disks logs s asked = inr (left_of g (goal.at.returns-in-Ok-write_report-clause-history g c).After-run_sites disks logs s asked)

pub returns-in-Ok-write_report-clause-done : goal.returns-in-Ok-write_report-clause-done
returns-in-Ok-write_report-clause-done g c logs sinks disks =
    let r = (goal.at.returns-in-Ok-write_report-clause-done g c).After-run_sites in
    let x = read_setting g r logs in
    let is = of_run g r logs x.0 x.1 in
    let written = c.in-Ok-write_report.ensures.all sinks ∙ ap (λ (ls : List ReportLine). g.K.Sink.held c.args.out.now ++ text_of ls) c.deref.ensures.value in
    (x.0, x.1, λ was. (c.in-Ok-classify.lines.items, joined x.0 _ _ _ _ _ _ (c.in-Ok-run_sites.ensures.over disks logs x.0 is) _ is.clicks_are _ (sym (ap (λ k. k.table) is.numbers)) _ x.2 _ c.in-Ok-classify.ensures (c.means.ensures.joins x.0 c.args.store.now c.run_sites.new.store) was, written))

pub returns-in-Ok-write_report-clause-afresh : goal.returns-in-Ok-write_report-clause-afresh
returns-in-Ok-write_report-clause-afresh g c logs sinks disks =
    let r = (goal.at.returns-in-Ok-write_report-clause-afresh g c).After-run_sites in
    let x = read_setting g r logs in
    let is = of_run g r logs x.0 x.1 in
    let written = c.in-Ok-write_report.ensures.all sinks ∙ ap (λ (ls : List ReportLine). g.K.Sink.held c.args.out.now ++ text_of ls) c.deref.ensures.value in
    (x.0, x.1, λ was. (c.in-Ok-classify.lines.items, joined_afresh x.0 _ _ _ _ _ _ (c.in-Ok-run_sites.ensures.over disks logs x.0 is) _ is.clicks_are _ (sym (ap (λ k. k.table) is.numbers)) _ x.2 _ c.in-Ok-classify.ensures (c.means.ensures.afresh x.0 c.args.store.now c.run_sites.new.store) x.1.table.0 was, written))

pub returns-in-Ok-write_report-clause-ran : goal.returns-in-Ok-write_report-clause-ran
returns-in-Ok-write_report-clause-ran g c logs disks =
    let r = (goal.at.returns-in-Ok-write_report-clause-ran g c).After-run_sites in
    let x = read_setting g r logs in
    (x.0, x.1, history c.run_sites.new.ran.log x.0 _ _ no_plan _ (ap (λ k. k.joiners) x.1.setting.numbers) (began x.0 _ _ _ _ _ _ (c.in-Ok-run_sites.ensures.over disks logs x.0 (of_run g r logs x.0 x.1))) (begun g r).2)

pub returns-clause-prefix : goal.returns-clause-prefix
returns-clause-prefix g c logs sinks disks e =
    let r = (goal.at.returns-clause-prefix g c).After-run_sites in
    let x = read_setting g r logs in
    let is = of_run g r logs x.0 x.1 in
    let took = subst (λ (ls : List ReportLine). TookPrefix (g.K.Sink.held c.args.out.now) (text_of ls) (g.K.Sink.held c.write_report.new.sink)) c.deref.ensures.value (c.in-Err-write_report.ensures.prefix sinks) in
    (x.0, x.1, λ was. (c.in-Ok-classify.lines.items, joined x.0 _ _ _ _ _ _ (c.in-Ok-run_sites.ensures.over disks logs x.0 is) _ is.clicks_are _ (sym (ap (λ k. k.table) is.numbers)) _ x.2 _ c.in-Ok-classify.ensures (c.means.ensures.joins x.0 c.args.store.now c.run_sites.new.store) was, took))

pub returns-in-Err-clause-ends : goal.returns-in-Err-clause-ends
returns-in-Err-clause-ends g c disks logs s asked = before_table s _ _ _ _ c.args.wanted.now.nodes.shards.now c.in-Err.bad c.in-Err.ensures.bad

pub returns-in-Err-checked_logs-clause-ends : goal.returns-in-Err-checked_logs-clause-ends
returns-in-Err-checked_logs-clause-ends g c disks logs s asked =
    let e = c.in-Err-checked_logs.ensures in
    let f = c.in-Err-checked_logs.refused in
    let before = g.S.Store.image c.args.store.now in
    let faulted = Rose (g.S.Store.faults c.args.store.now) (g.S.Store.faults c.args.store.now) in
    let read = Rose (g.F.Source.faults c.args.files.now) (g.F.Source.faults c.checked_logs.new.files) in
    before_all s before read faulted _ f (log_caused before s.config.replicas (Some (asked_of s)) (TellsPlaces s) faulted (IsLate s before faulted f) read f e.fault.0 e.fault.1 (λ is. e.count.rose (e.fault.0, ap Err is)))
    (welcome_where f ⊤ _ (λ x. tt) (log_fair f e.fault.0 e.fault.1))

pub returns-in-Err-run_sites-clause-ends : goal.returns-in-Err-run_sites-clause-ends
returns-in-Err-run_sites-clause-ends g c disks logs s asked =
    let r = (goal.at.returns-in-Err-run_sites-clause-ends g c).After-run_sites in
    on_fault s _ _ _ _ _ _ (read_later s _ _ _ _ _ (rose g r) _ _ (c.in-Err-run_sites.ensures.over disks logs s (of_run g r logs s asked)).ends)

pub returns-in_default-clause-ends : goal.returns-in_default-clause-ends
returns-in_default-clause-ends g c disks logs s asked =
    let r = (goal.at.returns-in_default-clause-ends g c).After-run_sites in
    on_err s _ _ _ _ _ _ (read_later s _ _ _ _ _ (rose g r) _ _ (c.in-Ok-run_sites.ensures.over disks logs s (of_run g r logs s asked)).ends) _ tt tt

pub returns-in-Ok-write_report-clause-ends : goal.returns-in-Ok-write_report-clause-ends
returns-in-Ok-write_report-clause-ends g c disks logs s asked =
    let r = (goal.at.returns-in-Ok-write_report-clause-ends g c).After-run_sites in
    on_ok s _ _ _ _ _ _ (read_later s _ _ _ _ _ (rose g r) _ _ (c.in-Ok-run_sites.ensures.over disks logs s (of_run g r logs s asked)).ends) _

pub returns-clause-ends : goal.returns-clause-ends
returns-clause-ends g c disks logs s asked =
    let r = (goal.at.returns-clause-ends g c).After-run_sites in
    let ran = (c.in-Ok-run_sites.ensures.over disks logs s (of_run g r logs s asked)).ends in
    on_err s _ _ _ _ _ _ (read_later s _ _ _ _ _ (rose g r) _ _ ran) _ (tt, ran.passed) tt

pub returns-in-Err-run_sites-clause-named : goal.returns-in-Err-run_sites-clause-named
returns-in-Err-run_sites-clause-named g c disks logs s asked =
    inr (c.in-Err-run_sites.ensures.over disks logs s (of_run g (goal.at.returns-in-Err-run_sites-clause-named g c).After-run_sites logs s asked)).named
