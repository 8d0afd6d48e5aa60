use Rattle.std.proofs.Common.{◌≡◌, ◌∷◌, [], ℕ, List, arith, length-append, true, None, Some, inl, refl, sym, ◌∙◌, ap, subst, length, map, IfErr, IfSome, IsTrue}
use Rattle.run_fault.specs.declared.fault.RunFault.TheVariants as fault
use Rattle.site_run.proofs.Words.{IfErr-weaker, length-map, length_permutation, lent_by, Mem, mem_right, DiskName, Topology, Store, Setting, IsLogOf, Rose, topology_of, IsAsked, IsSettingOver, MayBeLeft, kept_all, lent_all, topology_lent, as_lent, values_of, other_names, records_of, names_kept, KeepsItsRecord, IsCounted, IsCauseOf, IsOfRun, NamesFailed, RunLeft, IsAsPlanned, Left, calm_by_plan, each_calm, spared, IsStart, TopologyDisk}
use Rattle.site_run.proofs.Counting.{rose_before, some_rose}
use Rattle.site_run.proofs.Holding.{all_tell}
use Rattle.site_run.proofs.Outing.{each_moved, moved_out, may_moved, may_behind, given_goes_on}
use Rattle.site_run.proofs.Entering.{records_so, places_so, all_apart, out_so, keeps_so, other_stays, still_sound}
use Rattle.site_run.proofs.Entered.{run_left, rest_left, rest_earlier, run_sound, none_left, counted_more, last_of, over_back}
use Rattle.site_run.proofs.Refusing.{on_ok_of, err_both, passed_so, refused_so, cause_so, named_so, welcome_so, refusal_counted, refusal_unnamed}
use Rattle.site_run.proofs.Planning.{none_planned, planned_earlier}
use Rattle.site_run.proofs.run.run_over.Given.{Over}
use Rattle.site_run.proofs.run.run_over.Goals as goal
use Rattle.site_run.proofs.run.run_over.Goals.{After-build}

-- the nodes are built over the setting's logs, and over the records that the opened disks keep
start : (g : Over) (c : After-build g) → IsTrue g.F.Log.LogFile.tells → (gg : Setting) → IsSettingOver g.F.Log.LogFile.bytes c.args.logs.clicks.items c.args.logs.queries.items c.args.config.now c.args.end gg
    → IsStart g.F.Log.LogFile.bytes c.push_reserved-2.new.self.items c.args.logs.queries.items c.in-Ok.opened.disks.items c.args.config.now gg (records_of gg (kept_all {D = g.row.S-Disk.Denot} c.in-Ok.opened.disks.items))
start g c log_tells gg is =
    let disks = c.in-Ok.opened.disks.items in
    let o = c.in-Ok.ensures in
    let records = records_so disks _ _ o.named gg (ap (λ k. k.replicas) is.logs.numbers) (ap (λ k. k.joiners) is.logs.numbers) o.kept.1.kinds in
    let first : IsLogOf (g.F.Log.LogFile.bytes c.take_last-read.result) gg = last_of _ _ _ _ c.take_last-read.ensures.items is.logs.clicks_are in
    record {
      logs = over_back g.F.Log.LogFile.bytes c.args.config.now gg c.args.logs.clicks.items c.take_last-read.new.logs.items c.push_reserved-2.new.self.items c.args.logs.queries.items c.take_last-read.result c.open_store.new.clicks c.take_last-read.ensures.items c.push_reserved-2.ensures.items
          (subst (λ b. IsLogOf b gg) (sym (o.same log_tells)) first) is.logs;
      records = records;
      places = places_so disks _ _ o.named gg (records_of gg (kept_all {D = g.row.S-Disk.Denot} disks)) records (o.kept.2.places log_tells gg first is.ends);
    }

pub build-requires-clause-logs : goal.build-requires-clause-logs
build-requires-clause-logs g c =
    let rest = c.take_last-read.new.logs.items in
    record {
      clicks = ap length c.push_reserved-2.ensures.items ∙ length-append rest (c.open_store.new.clicks ∷ []) ∙ sym (length-append rest (c.take_last-read.result ∷ [])) ∙ sym (ap length c.take_last-read.ensures.items) ∙ c.requires.logs.clicks;
      queries = c.requires.logs.queries;
    }

pub run_system-requires-clause-places : goal.run_system-requires-clause-places
run_system-requires-clause-places g c κs within =
    let disks = c.in-Ok.opened.disks.items in
    omega (arith, length_permutation _ _ c.in-Ok-build.ensures.held, length-map disks (lent_by {D = g.row.S-Disk.Denot}), c.in-Ok.ensures.places)

pub give_parts-requires-after_bounds : goal.give_parts-requires-after_bounds
give_parts-requires-after_bounds g c =
    let disks = c.in-Ok.opened.disks.items in
    let back = c.in-Err-build.parts.disks.items in
    omega (arith, length_permutation _ _ c.in-Err-build.ensures.disks, length-map disks (lent_by {D = g.row.S-Disk.Denot}), length-map back as_lent, c.in-Ok.ensures.places)

pub returns-clause-cause : goal.returns-clause-cause
returns-clause-cause g c =
    let logs_rose = Rose (g.F.Source.faults c.args.files.now) (g.F.Source.faults c.run_system.new.files) in
    let disks_rose = Rose (g.S.Store.faults c.args.store.now) (g.S.Store.faults c.run_system.new.store) in
    let from_there = Rose (g.S.Store.faults c.open_store.new.store) (g.S.Store.faults c.run_system.new.store) in
    IfErr-weaker c.run_system.result _ _ (λ f from. counted_more f logs_rose from_there logs_rose disks_rose (λ rose. rose)
    (λ rose. rose_before (g.S.Store.faults c.args.store.now) (g.S.Store.faults c.open_store.new.store) (g.S.Store.faults c.run_system.new.store) c.in-Ok.ensures.count rose) from) (c.run_system.ensures.cause c.all_met.ensures)

pub returns-clause-over : goal.returns-clause-over
returns-clause-over g c tells log_tells gg checked is =
    let d = c.in-Ok.opened in
    let o = c.in-Ok.ensures in
    let run = c.run_system.ensures in
    let image = g.S.Disk.Disk.image in
    let before = g.S.Store.image c.args.store.now in
    let inside = g.S.Store.image c.open_store.new.store in
    let after = g.S.Store.image c.run_system.new.store in
    let asked_of : Topology = record { joiners = c.args.config.now.joiners; table = c.args.config.now.table } in
    let asked : IsAsked asked_of gg = record { joiners = ap (λ k. k.joiners) is.logs.numbers; table = ap (λ k. k.table) is.logs.numbers } in
    let topology = topology_lent {D = g.row.S-Disk.Denot} d.topology.journal.disk in
    let others = lent_all {D = g.row.S-Disk.Denot} d.disks.items in
    let all_kept = kept_all {D = g.row.S-Disk.Denot} d.disks.items in
    let built = records_of gg all_kept in
    let begun = start g (goal.at.returns-clause-over g c).After-build log_tells gg is in
    let first : IsLogOf (g.F.Log.LogFile.bytes c.take_last-read.result) gg = last_of _ _ _ _ c.take_last-read.ensures.items is.logs.clicks_are in
    let out = out_so asked_of image before inside topology others (o.lent tells) in
    let apart = all_apart d.disks.items _ _ o.named in
    let were = o.were_left tells gg built asked (ap (λ k. k.replicas) is.logs.numbers) begun.records in
    let were_kept : Store = record { topology = were.0; disks = built; is_used = true } in
    let from_there = Rose (g.S.Store.faults c.open_store.new.store) (g.S.Store.faults c.run_system.new.store) in
    let logs_rose = Rose (g.F.Source.faults c.args.files.now) (g.F.Source.faults c.run_system.new.files) in
    let disks_rose = Rose (g.S.Store.faults c.args.store.now) (g.S.Store.faults c.run_system.new.store) in
    let later : from_there → disks_rose = λ rose. rose_before (g.S.Store.faults c.args.store.now) (g.S.Store.faults c.open_store.new.store) (g.S.Store.faults c.run_system.new.store) o.count rose in
    let node_tells = all_tell g.S.Disk.Disk.tells g.F.Log.LogFile.tells tells log_tells in
    let held = c.all_held.ensures tells log_tells in
    let down = c.in-Ok-build.ensures.places tells gg built begun in
    let same = sym (ap (λ x. topology_lent {D = g.row.S-Disk.Denot} x) (c.into_disk.ensures ∙ ap (λ t. t.journal.disk) c.in-Ok-build.ensures.topology)) in
    let keeps = subst (λ t. KeepsItsRecord image gg t) same (keeps_so asked_of image before inside topology others (o.lent tells) gg asked refl) in
    let idle : c.run_system.new.ran.log ≡ None → (disk : DiskName) (b : List ℕ) → after disk b → MayBeLeft image inside (topology ∷ others) disk b
    = λ none disk b now. may_behind image inside topology _ others _ same c.in-Ok-build.ensures.held disk b (run.idle tells none disk b now) in
    let nodes = run.over tells node_tells gg built is.logs.numbers held c.all_met.ensures down keeps in
    let whole : IfErr c.run_system.result (IsOfRun gg built from_there c.run_system.new.ran.log) = nodes.named in
    let opened : IfSome c.run_system.new.ran.log (λ l. l.opened ≡ all_kept)
    = subst (λ k. IfSome c.run_system.new.ran.log (λ l. l.opened ≡ k)) (c.kept_by_all-kept.ensures ∙ ap (λ k. kept_all {D = g.row.S-Disk.Denot} k) c.deref.ensures.value) run.opened in
    let named = names_kept d.disks.items ∙ o.named ∙ ap (λ n. other_names n c.args.config.now.replicas) (sym (ap (λ k. k.joiners) is.logs.numbers)) ∙ ap (other_names gg.config.joiners) (sym (ap (λ k. k.replicas) is.logs.numbers)) in
    record {
      ends = record {
        keeps = record {
          sound = λ sound.
              let sure = o.whole tells gg built asked (ap (λ k. k.replicas) is.logs.numbers) sound begun.records in
              run_sound c.run_system.new.ran.log gg after (record { topology = Some (topology_of gg); disks = built; is_used = sure.0 }) checked sure.1 refl (c.run.ensures gg c.run_system.new.store)
              (λ none. still_sound asked_of image before inside topology others (o.lent tells) refl apart after (idle none) gg asked (c.topology_first.ensures gg c.args.store.now c.run_system.new.store) sound)
              (nodes.left built (λ n among. refl));
          grown = nodes.grown c.args.store.now (moved_out image before inside topology _ others _ same c.in-Ok-build.ensures.held out);
        };
        idle = λ none disk other. other_stays asked_of image before inside topology others (o.lent tells) refl apart after (idle none) disk other;
        passed = on_ok_of c.run_system.result (passed_so gg before asked_of asked _ (ap (λ k. k.replicas) is.logs.numbers) g.S.Disk.Disk.tells g.F.Log.LogFile.tells tells log_tells (g.F.Log.LogFile.bytes c.take_last-read.result) c.args.end first is.ends (values_of {D = g.row.S-Disk.Denot} o.kept.0 d.disks.items) o.kept.1 o.kept.2);
        caused = err_both (IsCounted logs_rose from_there) (IsOfRun gg built from_there c.run_system.new.ran.log) (IsCauseOf gg before logs_rose disks_rose) c.run_system.result (run.cause c.all_met.ensures) whole
            (λ f from of. cause_so gg before all_kept o.kept.2.limits (o.kept.1.kept tells) built begun.records named c.run_system.new.ran.log logs_rose disks_rose from_there later f (counted_more f logs_rose from_there logs_rose disks_rose (λ rose. rose) later from) of);
        welcome = λ sound. IfErr-weaker c.run_system.result _ _ (λ f of. welcome_so gg built from_there _ c.run_system.new.ran.log f of) whole;
      };
      left = run_left c.run_system.new.ran.log gg before after were_kept all_kept were.1 begun.records opened nodes.left;
      rest = rest_earlier gg before before after (λ disk b now. now) c.run_system.result c.run_system.new.ran.log _ _ later
          (rest_left c.run_system.result c.run_system.new.ran.log gg before after were_kept from_there were.1 nodes.rest);
      named = IfErr-weaker c.run_system.result _ _ (λ f of. named_so gg before all_kept o.kept.2.limits (o.kept.1.kept tells) built begun.records named c.run_system.new.ran.log from_there opened f of) whole;
    }

pub returns-in-Err-build-clause-over : goal.returns-in-Err-build-clause-over
returns-in-Err-build-clause-over g c tells log_tells gg checked is =
    let d = c.in-Ok.opened in
    let o = c.in-Ok.ensures in
    let image = g.S.Disk.Disk.image in
    let before = g.S.Store.image c.args.store.now in
    let inside = g.S.Store.image c.open_store.new.store in
    let after = g.S.Store.image c.give_parts.new.store in
    let asked_of : Topology = record { joiners = c.args.config.now.joiners; table = c.args.config.now.table } in
    let asked : IsAsked asked_of gg = record { joiners = ap (λ k. k.joiners) is.logs.numbers; table = ap (λ k. k.table) is.logs.numbers } in
    let topology = topology_lent {D = g.row.S-Disk.Denot} d.topology.journal.disk in
    let others = lent_all {D = g.row.S-Disk.Denot} d.disks.items in
    let apart = all_apart d.disks.items _ _ o.named in
    let back : (disk : DiskName) (b : List ℕ) → after disk b → MayBeLeft image inside (topology ∷ others) disk b
    = λ disk b now. may_moved image inside _ _ c.in-Err-build.ensures.disks disk b (c.give_parts.ensures.left tells disk b now) in
    record {
      ends = record {
        keeps = record {
          sound = still_sound asked_of image before inside topology others (o.lent tells) refl apart after back gg asked (c.topology_first.ensures gg c.args.store.now c.give_parts.new.store);
          grown = λ disk b now. given_goes_on image before inside topology others (out_so asked_of image before inside topology others (o.lent tells)) disk b (back disk b now);
        };
        idle = λ none disk other. other_stays asked_of image before inside topology others (o.lent tells) refl apart after back disk other;
        passed = tt;
        caused = tt;
        welcome = λ sound. tt;
      };
      left = none_left (RunLeft gg before after) _ c.requires.none;
      rest = tt;
      named = none_left (λ l. NamesFailed gg l.air.history l.opened fault.Memory) _ c.requires.none;
    }

pub returns-in-Err-clause-over : goal.returns-in-Err-clause-over
returns-in-Err-clause-over g c tells log_tells gg checked is =
    let e = c.in-Err.ensures in
    let asked_of : Topology = record { joiners = c.args.config.now.joiners; table = c.args.config.now.table } in
    let asked : IsAsked asked_of gg = record { joiners = ap (λ k. k.joiners) is.logs.numbers; table = ap (λ k. k.table) is.logs.numbers } in
    let first : IsLogOf (g.F.Log.LogFile.bytes c.take_last-read.result) gg = last_of _ _ _ _ c.take_last-read.ensures.items is.logs.clicks_are in
    let before = g.S.Store.image c.args.store.now in
    let logs_rose = Rose (g.F.Source.faults c.args.files.now) (g.F.Source.faults c.shut_logs.new.files) in
    let disks_rose = Rose (g.S.Store.faults c.args.store.now) (g.S.Store.faults c.open_store.new.store) in
    record {
      ends = record {
        keeps = record { sound = λ sound. e.sound tells gg asked sound; grown = λ disk. e.grown tells disk };
        idle = λ none. (e.left tells).others;
        passed = tt;
        caused = refused_so gg before asked_of asked _ (ap (λ k. k.replicas) is.logs.numbers) g.S.Disk.Disk.tells g.F.Log.LogFile.tells tells log_tells (g.F.Log.LogFile.bytes c.take_last-read.result) c.args.end first is.ends _ _ logs_rose disks_rose
            (λ rose. c.shut_logs.ensures.clicks c.open_store.new.clicks (subst (Mem c.open_store.new.clicks) (sym c.push_reserved.ensures.items) (mem_right c.open_store.new.clicks c.take_last-read.new.logs.items (c.open_store.new.clicks ∷ []) (inl refl))) (some_rose _ _ rose))
            (λ rose. rose) c.in-Err.fault e.cause;
        welcome = λ sound. e.welcome tells log_tells gg asked (ap (λ k. k.replicas) is.logs.numbers) first is.ends sound;
      };
      left = none_left (RunLeft gg before (g.S.Store.image c.open_store.new.store)) _ c.requires.none;
      rest = tt;
      named = none_left (λ l. NamesFailed gg l.air.history l.opened c.in-Err.fault) _ c.requires.none;
    }

pub returns-in-Err-clause-cause : goal.returns-in-Err-clause-cause
returns-in-Err-clause-cause g c =
    let logs_rose = Rose (g.F.Source.faults c.args.files.now) (g.F.Source.faults c.shut_logs.new.files) in
    let disks_rose = Rose (g.S.Store.faults c.args.store.now) (g.S.Store.faults c.open_store.new.store) in
    refusal_counted g.S.Disk.Disk.tells (g.S.Store.image c.args.store.now) c.args.config.now.replicas _ g.F.Log.LogFile.tells (g.F.Log.LogFile.bytes c.take_last-read.result) c.args.end _ (Some (record { joiners = c.args.config.now.joiners; table = c.args.config.now.table })) logs_rose disks_rose
    (λ rose. c.shut_logs.ensures.clicks c.open_store.new.clicks (subst (Mem c.open_store.new.clicks) (sym c.push_reserved.ensures.items) (mem_right c.open_store.new.clicks c.take_last-read.new.logs.items (c.open_store.new.clicks ∷ []) (inl refl))) (some_rose _ _ rose))
    (λ rose. rose) c.in-Err.fault c.in-Err.ensures.cause

pub returns-in-Err-clause-stopped : goal.returns-in-Err-clause-stopped
returns-in-Err-clause-stopped g c n is =
    absurd (refusal_unnamed g.S.Disk.Disk.tells (g.S.Store.image c.args.store.now) c.args.config.now.replicas _ g.F.Log.LogFile.tells (g.F.Log.LogFile.bytes c.take_last-read.result) c.args.end _ (Some (record { joiners = c.args.config.now.joiners; table = c.args.config.now.table })) c.in-Err.fault n c.in-Err.ensures.cause is)

pub returns-clause-stops : goal.returns-clause-stops
returns-clause-stops g c planned log_tells gg checked is =
    let disk = g.S.Disk.Disk in
    let tells = (g.met.S.Disk.Disk g.world.𝓛 g.world.𝓜 g.world.𝓡 ((λ s x. x), (λ x. x), (λ x. x), λ x. x)).plan_told planned in
    let left = Left g.S.Store.stops g.S.Store.made c.args.store.now in
    let all = (c.in-Ok.ensures.plan planned).out in
    let same = c.into_disk.ensures ∙ ap (λ t. t.journal.disk) c.in-Ok-build.ensures.topology in
    planned_earlier _ _ _ _ _ gg _ _ _ _ (λ disk k few. few) (λ disk soon. soon) (λ none. (c.in-Ok.ensures.plan planned).still)
    (c.run_system.ensures.stops planned (c.all_planned.ensures.planned planned) gg _ c.args.store.now is.logs.numbers (c.all_held.ensures tells log_tells) (c.in-Ok-build.ensures.places tells gg _ (start g (goal.at.returns-clause-stops g c).After-build log_tells gg is))
    (c.all_planned.ensures.disks planned) refl
    (subst (IsAsPlanned disk.stops disk.made disk.faults (left TopologyDisk)) (sym same) all.0, each_moved (λ l. IsAsPlanned disk.stops disk.made disk.faults (left l.name) l.disk) _ _ c.in-Ok-build.ensures.held all.1))

pub returns-in-Err-build-clause-stops : goal.returns-in-Err-build-clause-stops
returns-in-Err-build-clause-stops g c planned log_tells gg checked is =
    let disk = g.S.Disk.Disk in
    let opened = topology_lent {D = g.row.S-Disk.Denot} c.in-Ok.opened.topology.journal.disk ∷ lent_all {D = g.row.S-Disk.Denot} c.in-Ok.opened.disks.items in
    none_planned _ _ _ gg _ _ _ c.requires.none
    (λ none. c.give_parts.ensures.calm (each_moved (λ l. disk.faults l.disk ≡ 0) opened _ c.in-Err-build.ensures.disks (each_calm disk.stops disk.made disk.faults (Left g.S.Store.stops g.S.Store.made c.args.store.now) opened (c.in-Ok.ensures.plan planned).out)) ∙ (c.in-Ok.ensures.plan planned).still)
    (λ are at is. absurd (cc is))

pub returns-in-Err-clause-stops : goal.returns-in-Err-clause-stops
returns-in-Err-clause-stops g c planned log_tells gg checked is =
    let s = g.S.Store in
    let by = c.in-Err.ensures.early planned in
    none_planned _ _ _ gg _ _ _ c.requires.none (λ none. calm_by_plan s.stops s.made s.faults c.args.store.now c.open_store.new.store none c.in-Err.fault by)
    (λ are. spared s.stops s.made s.faults c.args.store.now c.open_store.new.store are.late c.in-Err.fault by)
