use Rattle.std.proofs.Common.{◌∙◌, ap, Err, sym, subst}
use Rattle.site_run.proofs.Words.{IsCounted, IsWelcome, IsCauseOf, Rose, HasSoon, Left, same_left}
use Rattle.site_run.proofs.Refusing.{place_cause, place_spared, place_unnamed}
use Rattle.site_run.proofs.Counting.{rose_before}
use Rattle.site_run.proofs.Entered.{over_so, checked_so, place_counted, place_welcome}
use Rattle.site_run.proofs.Earlier.{not_begun, ran_earlier}
use Rattle.site_run.proofs.Planning.{planned_earlier, soon_earlier}
use Rattle.site_run.proofs.run.run_sites.Goals as goal

pub returns-in-Err-place-clause-cause : goal.returns-in-Err-place-clause-cause
returns-in-Err-place-clause-cause g c =
    let logs_rose = Rose (g.F.Source.faults c.args.files.now) (g.F.Source.faults c.shut_logs.new.files) in
    let disks_rose = Rose (g.S.Store.faults c.args.store.now) (g.S.Store.faults c.place.new.self) in
    subst (λ f. IsCounted logs_rose disks_rose f) (sym c.from.ensures) (place_counted c.in-Err-place.fault logs_rose disks_rose (λ is. c.in-Err-place.ensures.count.rose (ap Err is)))

pub returns-clause-over : goal.returns-clause-over
returns-clause-over g c tells log_tells gg is =
    let told = g.F.Source.bytes c.args.files.now in
    let queries = c.args.names.now.queries.now in
    let clicks = c.args.names.now.clicks.now in
    let logs = c.in-Ok-open_logs.logs in
    let before = g.S.Store.image c.args.store.now in
    let placed = g.S.Store.image c.place.new.self in
    let after = g.S.Store.image c.run_over.new.store in
    let over = over_so g.F.Log.LogFile.bytes told queries clicks c.args.config.now c.args.end gg logs.clicks.items logs.queries.items
    (c.in-Ok-open_logs.ensures.click_logs log_tells) (c.in-Ok-open_logs.ensures.query_logs log_tells) is in
    let checked = checked_so c.stores.ensures.checked gg (told queries) (told clicks) is.queries_are is.clicks_are in
    let mid_files = g.F.Source.faults c.open_logs.new.files in
    let last_files = g.F.Source.faults c.run_over.new.files in
    let mid_store = g.S.Store.faults c.place.new.self in
    let last_store = g.S.Store.faults c.run_over.new.store in
    ran_earlier gg before placed (c.place.ensures.same tells) after (Rose mid_files last_files) (Rose (g.F.Source.faults c.args.files.now) last_files) (Rose mid_store last_store) (Rose (g.S.Store.faults c.args.store.now) last_store) c.run_over.new.ran.log c.run_over.result
    (λ rose. rose_before (g.F.Source.faults c.args.files.now) mid_files last_files c.open_logs.ensures.faults rose)
    (λ rose. rose_before (g.S.Store.faults c.args.store.now) mid_store last_store c.place.ensures.count.later rose)
    (c.run_over.ensures.over tells log_tells gg checked over)

pub returns-in-Err-place-clause-over : goal.returns-in-Err-place-clause-over
returns-in-Err-place-clause-over g c tells log_tells gg is =
    let before = g.S.Store.image c.args.store.now in
    let f = c.in-Err-place.fault in
    let logs_rose = Rose (g.F.Source.faults c.args.files.now) (g.F.Source.faults c.shut_logs.new.files) in
    let disks_rose = Rose (g.S.Store.faults c.args.store.now) (g.S.Store.faults c.place.new.self) in
    let cause = place_cause gg before logs_rose disks_rose f (λ is. c.in-Err-place.ensures.count.rose (ap Err is)) in
    not_begun gg before (g.S.Store.image c.place.new.self) (c.place.ensures.same tells) logs_rose disks_rose c.from.result
    (subst (IsCauseOf gg before logs_rose disks_rose) (sym c.from.ensures) cause) (subst (IsWelcome _) (sym c.from.ensures) (place_welcome f _))

pub returns-in-Err-place-clause-same : goal.returns-in-Err-place-clause-same
returns-in-Err-place-clause-same g c log_tells n = c.shut_logs.ensures.same log_tells n ∙ c.open_logs.ensures.same log_tells n

pub returns-in-Err-place-clause-stopped : goal.returns-in-Err-place-clause-stopped
returns-in-Err-place-clause-stopped g c = λ n is. absurd (place_unnamed c.in-Err-place.fault n (sym c.from.ensures ∙ is))

pub returns-clause-stops : goal.returns-clause-stops
returns-clause-stops g c planned log_tells gg is =
    let s = g.S.Store in
    let old = c.args.store.now in
    let placed = c.place.new.self in
    let tells = (g.met.S.Disk.Disk g.world.𝓛 g.world.𝓜 g.world.𝓡 ((λ s x. x), (λ x. x), (λ x. x), λ x. x)).plan_told planned in
    let told = g.F.Source.bytes c.args.files.now in
    let queries = c.args.names.now.queries.now in
    let clicks = c.args.names.now.clicks.now in
    let logs = c.in-Ok-open_logs.logs in
    let over = over_so g.F.Log.LogFile.bytes told queries clicks c.args.config.now c.args.end gg logs.clicks.items logs.queries.items
    (c.in-Ok-open_logs.ensures.click_logs log_tells) (c.in-Ok-open_logs.ensures.query_logs log_tells) is in
    planned_earlier c.run_over.new.ran.log (Left s.stops s.made old) (Left s.stops s.made placed) (HasSoon s.stops s.made old) (HasSoon s.stops s.made placed) gg _ _ _ c.run_over.result
    (λ disk k. same_left k (s.stops old disk) (s.stops placed disk) (s.made old disk) (s.made placed disk) (c.place.ensures.stops tells disk) (c.place.ensures.made tells disk))
    (soon_earlier s.stops s.made old placed (c.place.ensures.stops tells) (c.place.ensures.made tells))
    (λ none. c.place.ensures.tally tells)
    (c.run_over.ensures.stops planned log_tells gg (checked_so c.stores.ensures.checked gg (told queries) (told clicks) is.queries_are is.clicks_are) over)

pub returns-in-Err-place-clause-stops : goal.returns-in-Err-place-clause-stops
returns-in-Err-place-clause-stops g c planned log_tells gg is =
    let tells = (g.met.S.Disk.Disk g.world.𝓛 g.world.𝓜 g.world.𝓡 ((λ s x. x), (λ x. x), (λ x. x), λ x. x)).plan_told planned in
    record {
      stops = tt;
      calm = λ none. c.place.ensures.tally tells;
      spared = λ are at is. place_spared c.in-Err-place.fault (λ failed. c.in-Err-place.ensures.plan planned (ap Err failed)) at (sym c.from.ensures ∙ is);
    }
