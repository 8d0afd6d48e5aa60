use Rattle.std.proofs.Common.{IsTrue, List, [], ℕ, Option, inr, refl, sym, ap, subst}
use Rattle.photon_cli.proofs.Words.{⊤, AreValid, Config, IfSome, IsAsked, IsHeardOf, IsSettingOf, Setting, SparesNodes, StopsAtMost, all_earlier, config_of, counted_more, names_of, same_left, stops_earlier, values_in}
use Rattle.photon_cli.proofs.Drilling.{drilled, never_soon, of_drill}
use Rattle.photon_cli.proofs.Runs.{is_asked, placed_ids, ran_afresh, run_setting, setting_of}
use Rattle.site_run.specs.Heard as site
use Rattle.mem_outside.specs.contracts.mem_store.MemStoreStore.TheImpl.{ghosts}
use Rattle.photon_cli.proofs.engine.drill.drilled_lines.Given.{Over}
use Rattle.photon_cli.proofs.engine.drill.drilled_lines.Goals as goal
use Rattle.photon_cli.proofs.engine.drill.drilled_lines.Goals.{After-run_sites}

-- the setting that is asked for is the run's
of_run : (g : Over) (c : After-run_sites g) → IsTrue g.F.Log.LogFile.tells → (s : Setting) → IsAsked (g.F.Source.bytes c.args.files.now) (values_in c.args.wanted.now) s
    → IsSettingOf (g.F.Source.bytes c.checked_logs.new.files) c.args.wanted.now.queries.now c.args.wanted.now.clicks.now c.config_in-config.result c.in-Ok.clicks.end s
of_run g c logs s asked =
    run_setting (g.F.Source.bytes c.args.files.now) (g.F.Source.bytes c.checked_logs.new.files) (values_in c.args.wanted.now) c.args.table _ c.config_in-config.ensures.config c.in-Ok.clicks.end s asked c.requires.table (c.in-Ok.ensures.same logs) (c.in-Ok.ensures.end logs)

heard : (g : Over) (c : After-run_sites g) → IfSome c.run_sites.new.ran.log (IsHeardOf c.args.plan c.args.wanted.now.nodes.joiners)
heard g c = subst (λ (k : Config). IfSome c.run_sites.new.ran.log (site.IsHeardOf c.args.plan k.joiners k.replicas)) c.config_in-config.ensures.config c.run_sites.ensures.heard

valid : (g : Over) (c : After-run_sites g) → IsTrue g.F.Log.LogFile.tells → AreValid (g.F.Source.bytes c.args.files.now) (values_in c.args.wanted.now).queries (values_in c.args.wanted.now).clicks
valid g c logs = let x = c.in-Ok.ensures.valid logs in (x.0, x.1, x.2)

pub returns-in-Err-run_sites-clause-begins : goal.returns-in-Err-run_sites-clause-begins
returns-in-Err-run_sites-clause-begins g c =
    let r = (goal.at.returns-in-Err-run_sites-clause-begins g c).After-run_sites in
    inr (valid g r, heard g r, counted_more c.in-Err-run_sites.fault _ _ ⊤ ⊤ (λ rose. tt) (λ rose. tt) c.in-Err-run_sites.ensures.cause)

pub returns-in-Ok-classify-clause-begins : goal.returns-in-Ok-classify-clause-begins
returns-in-Ok-classify-clause-begins g c = let r = (goal.at.returns-in-Ok-classify-clause-begins g c).After-run_sites in inr (valid g r, heard g r, tt)

pub returns-clause-begins : goal.returns-clause-begins
returns-clause-begins g c = let r = (goal.at.returns-clause-begins g c).After-run_sites in inr (valid g r, heard g r, tt)

pub returns-in-Ok-classify-clause-done : goal.returns-in-Ok-classify-clause-done
returns-in-Ok-classify-clause-done g c logs =
    let told : List ℕ → Option (List ℕ) = g.F.Source.bytes c.args.files.now in
    let r = (goal.at.returns-in-Ok-classify-clause-done g c).After-run_sites in
    let v = values_in c.args.wanted.now in
    let plan = c.args.plan in
    let store = c.in-Ok-store_for.ensures in
    let x = c.in-Ok.ensures.valid logs in
    let s = setting_of v c.args.table x.0 x.1 in
    let asked = is_asked told v c.args.table x.0 x.1 c.requires.table x.2 in
    let is = of_run g r logs s asked in
    let ran = ran_afresh s _ _ _ _ _ _ (c.in-Ok-run_sites.ensures.over refl logs s is) _ is.clicks_are _ (sym (ap (λ k. k.table) is.numbers)) _ (placed_ids c.in-Ok.clicks.ids.items x.1 x.3) _ c.in-Ok-classify.ensures (c.means.ensures.ran s c.in-Ok-store_for.store c.run_sites.new.store) asked.table.0 (λ disk is. (store.images disk).0) in (
      s,
      asked,
      drilled c.run_sites.new.ran.log s plan v.nodes.joiners c.in-Ok-classify.lines.items (ap (λ k. k.joiners) asked.setting.numbers) ran (heard g r)
          (stops_earlier c.run_sites.new.ran.log (StopsAtMost v.nodes.joiners plan.stops) _ s (λ disk k. same_left k _ _ 0 _ (store.calls disk) (store.made disk)) (c.run_sites.ensures.stops refl logs s is).stops),
    )

pub returns-in-Err-run_sites-clause-fair : goal.returns-in-Err-run_sites-clause-fair
returns-in-Err-run_sites-clause-fair g c logs =
    let told : List ℕ → Option (List ℕ) = g.F.Source.bytes c.args.files.now in
    let r = (goal.at.returns-in-Err-run_sites-clause-fair g c).After-run_sites in
    let v = values_in c.args.wanted.now in
    let stops = c.args.plan.stops in
    let store = c.in-Ok-store_for.ensures in
    let x = c.in-Ok.ensures.valid logs in
    let s = setting_of v c.args.table x.0 x.1 in
    let is = of_run g r logs s (is_asked told v c.args.table x.0 x.1 c.requires.table x.2) in
    let run = c.in-Err-run_sites.ensures in
    let ends = (run.over refl logs s is).ends in
    of_drill s _ (λ disk. (store.images disk).0) _ _ _ (SparesNodes v stops → ⊥) (λ disk is. ([], (store.images disk).1)) c.in-Err-run_sites.fault
    (λ at told spares.
    (run.stops refl logs s is).spared
    (record {
      late = never_soon ghosts.stops ghosts.made c.in-Ok-store_for.store v.nodes.joiners stops store.calls store.made spares.late;
      few = λ n of. all_earlier (StopsAtMost v.nodes.joiners stops) _ (λ disk k. same_left k _ _ 0 _ (store.calls disk) (store.made disk)) (names_of (config_of v.horizon v.nodes c.args.table) n) 1 (spares.few c.args.table n);
    })
    at told)
    ends.caused (ends.welcome (c.empty_store.ensures s c.in-Ok-store_for.store (λ disk is. (store.images disk).0)))
