use Rattle.std.proofs.Common.{◌++◌, ℕ, List, Option, None, inr, refl, ap, sym, subst, ◌∙◌, ◌≡◌, IsTrue}
use Rattle.photon_cli.proofs.Words.{REPLICAS, list_any, IsSomeAnd, ReportLine, Setting, end_from, is_missing, text_of, TookPrefix, Rose, IsLogOf, IsOverLog, rose_before, IsReadFrom, IsTold, TellsPlaces}
use Rattle.photon_cli.proofs.Causing.{later_caused}
use Rattle.photon_cli.proofs.CheckedLogs.{clicks_read}
use Rattle.photon_cli.proofs.Runs.{ends_there}
use Rattle.photon_cli.proofs.Statuses.{run_past}
use Rattle.photon_cli.proofs.Verifying.{told_of}
use Rattle.photon_cli.proofs.engine.verify.verify_store.Given.{Over}
use Rattle.photon_cli.proofs.engine.verify.verify_store.Goals as goal
use Rattle.photon_cli.proofs.engine.verify.verify_store.Goals.{After-kept_store, After-write_report}

-- the lines are told of what was read
told : (g : Over) (c : After-write_report g) → IsTrue g.F.Log.LogFile.tells → IsTrue g.S.Disk.Disk.tells
    → IsSomeAnd (g.F.Source.bytes c.args.files.now c.args.clicks.now) (λ log. IsTold (g.S.Store.image c.args.store.now) log c.in-Ok-kept_store.kept c.in-Ok-kept_lines.lines.items)
told g c logs disks =
    let before = g.S.Store.image c.args.store.now in
    let kept = c.in-Ok-kept_store.kept in
    let own = clicks_read _ _ c.in-Ok.checked refl (c.in-Ok.ensures.found logs) in
    let read = subst (λ (o : Option (List ℕ)). IsSomeAnd o (λ log. IsReadFrom before log kept)) (c.in-Ok.ensures.same logs c.args.clicks.now) (c.in-Ok-kept_store.ensures.read disks logs) in
    told_of before kept own.0.0 c.in-Ok-kept_lines.lines.items (λ t is. c.in-Ok-kept_lines.ensures.some t is own.0.0 (sym own.1)) (λ is. c.in-Ok-kept_lines.ensures.none is own.0.0 (sym own.1)) _ own.0.1 read

-- the store is read over the log of the setting, to its end
over_log : (g : Over) (c : After-kept_store g) → IsTrue g.F.Log.LogFile.tells → (s : Setting) → IsOverLog (g.F.Source.bytes c.args.files.now) c.args.clicks.now s
    → IsOverLog (g.F.Source.bytes c.check_in.new.files) c.args.clicks.now s × (c.in-Ok.checked.end ≡ end_from 0 s.clicks)
over_log g c logs s over =
    let clicks = c.args.clicks.now in
    (subst (λ (o : Option (List ℕ)). IsSomeAnd o (λ log. IsLogOf log s)) (sym (c.in-Ok.ensures.same logs clicks)) over, ends_there _ s c.in-Ok.checked.end over (clicks_read _ _ c.in-Ok.checked refl (c.in-Ok.ensures.found logs)).2)

pub returns-in-Ok-write_report-clause-done : goal.returns-in-Ok-write_report-clause-done
returns-in-Ok-write_report-clause-done g c logs sinks disks = (
  c.in-Ok-kept_store.kept,
  c.in-Ok-kept_lines.lines.items,
  told g (goal.at.returns-in-Ok-write_report-clause-done g c).After-write_report logs disks,
  c.has_missing.ensures ∙ ap (list_any is_missing) c.deref-in-Ok-write_report.ensures.value,
  c.in-Ok-write_report.ensures.all sinks ∙ ap (λ (ls : List ReportLine). g.K.Sink.held c.args.out.now ++ text_of ls) c.deref.ensures.value,
)

pub returns-clause-prefix : goal.returns-clause-prefix
returns-clause-prefix g c logs sinks disks e = (
  c.in-Ok-kept_store.kept,
  c.in-Ok-kept_lines.lines.items,
  told g (goal.at.returns-clause-prefix g c).After-write_report logs disks,
  subst (λ (t : List ℕ). TookPrefix (g.K.Sink.held c.args.out.now) t (g.K.Sink.held c.write_report.new.sink)) (ap text_of c.deref.ensures.value) (c.in-Err-write_report.ensures.prefix sinks),
)

pub returns-in-Err-kept_store-clause-begins : goal.returns-in-Err-kept_store-clause-begins
returns-in-Err-kept_store-clause-begins g c = inr ((λ logs. (clicks_read _ _ c.in-Ok.checked refl (c.in-Ok.ensures.found logs)).0), (let e = c.in-Err-kept_store.ensures in (run_past c.in-Err-kept_store.fault e.cause, e.own)))

pub returns-in_default-clause-begins : goal.returns-in_default-clause-begins
returns-in_default-clause-begins g c = inr ((λ logs. (clicks_read _ _ c.in-Ok.checked refl (c.in-Ok.ensures.found logs)).0), (tt, tt))

pub returns-in-Ok-write_report-clause-begins : goal.returns-in-Ok-write_report-clause-begins
returns-in-Ok-write_report-clause-begins g c = inr ((λ logs. (clicks_read _ _ c.in-Ok.checked refl (c.in-Ok.ensures.found logs)).0), tt)

pub returns-clause-begins : goal.returns-clause-begins
returns-clause-begins g c = inr ((λ logs. (clicks_read _ _ c.in-Ok.checked refl (c.in-Ok.ensures.found logs)).0), (tt, tt))

pub returns-in-Err-kept_store-clause-caused : goal.returns-in-Err-kept_store-clause-caused
returns-in-Err-kept_store-clause-caused g c disks logs s over =
    let x = over_log g (goal.at.returns-in-Err-kept_store-clause-caused g c).After-kept_store logs s over in
    let first = g.F.Source.faults c.args.files.now in
    let mid = g.F.Source.faults c.check_in.new.files in
    let last = g.F.Source.faults c.kept_store.new.files in
    let faulted = Rose (g.S.Store.faults c.args.store.now) (g.S.Store.faults c.kept_store.new.store) in
    later_caused (g.S.Store.image c.args.store.now) REPLICAS None (TellsPlaces s) faulted ⊥ (Rose mid last) (Rose first last) (λ rose. rose_before first mid last c.check_in.ensures.count.later rose) c.in-Err-kept_store.fault (c.in-Err-kept_store.ensures.caused disks logs s x.0 x.1)

pub returns-in-Err-kept_store-clause-welcome : goal.returns-in-Err-kept_store-clause-welcome
returns-in-Err-kept_store-clause-welcome g c disks logs s over replicas leaves sound =
    let x = over_log g (goal.at.returns-in-Err-kept_store-clause-welcome g c).After-kept_store logs s over in
    c.in-Err-kept_store.ensures.welcome disks logs s x.0 x.1 replicas leaves sound

pub returns-clause-caused : goal.returns-clause-caused
returns-clause-caused g c disks logs s over = let x = over_log g (goal.at.returns-clause-caused g c).After-kept_store logs s over in (tt, c.in-Ok-kept_store.ensures.passed disks logs s x.0 x.1)

pub returns-in-Ok-write_report-clause-passed : goal.returns-in-Ok-write_report-clause-passed
returns-in-Ok-write_report-clause-passed g c disks logs s over =
    let x = over_log g (goal.at.returns-in-Ok-write_report-clause-passed g c).After-kept_store logs s over in
    c.in-Ok-kept_store.ensures.passed disks logs s x.0 x.1
