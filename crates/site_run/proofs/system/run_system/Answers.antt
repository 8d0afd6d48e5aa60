use Rattle.std.proofs.Common.{◌≡◌, ⊎_elim, ℕ, ◌<◌, List, ◌++◌, ◌∷◌, length, map, sym, ap, ◌∙◌, subst, arith, IsTrue}
use Rattle.site_run.proofs.Words.{DiskName, RunLog, SameRecords, length-map, IfErr-weaker, Each, Mem, mem_right, Rose, KeepsPairs, Config, Kind, Setting, Disks, count_of, kinds_of, node_count, MayBeLeft, KeepsNotes, made_by, stop_count, as_lent, all_from, AreDownOver, IsRunFrom, IsOfDisks, AreKeptIn, AreUp, lent_replicas, lent_outputs, Left, each_calm}
use Rattle.site_run.proofs.Making.{down_too}
use Rattle.site_run.proofs.Standing.{dead_replicas, have_grown, kinds_count, runs_from}
use Rattle.site_run.proofs.Entered.{none_left}
use Rattle.site_run.proofs.Outing.{given_goes_on}
use Rattle.site_run.proofs.Running.{same_count, goes_on, has_run, rests, no_stops, fault_told, first_told, first_ended, disks_alone, read_back_of, at_rest, disks_counted, none_at}
use Rattle.site_run.proofs.Settling.{err_cases, in_front, ok_three}
use Rattle.site_run.proofs.Planning.{all_calm, all_up, none_planned, none_told, none_too_often}
use Rattle.site_run.proofs.system.run_system.Given.{Over}
use Rattle.site_run.proofs.system.run_system.Goals as goal
use Rattle.site_run.proofs.system.run_system.Goals.{After-give_parts, After-settle}

pub run-requires-clause-count : goal.run-requires-clause-count
run-requires-clause-count g c κs within = c.requires.count ∙ sym (kinds_count c.args.config.now.joiners c.args.config.now.replicas c.args.kinds.now c.requires.kinds)

pub run-requires-clause-few : goal.run-requires-clause-few
run-requires-clause-few g c κs within = omega (arith, kinds_count c.args.config.now.joiners c.args.config.now.replicas c.args.kinds.now c.requires.kinds, c.requires.ranges.few, c.requires.ranges.replicas)

-- the history is a run of the whole system, from whatever records its nodes were opened over
run_left : (g : Over) (c : After-settle g) → IsTrue g.N.SiteNode.tells → (gg : Setting) (d : Disks) → gg.config ≡ c.args.config.now → AreDownOver g.N.SystemNode.places gg d c.args.nodes.items
    → IsRunFrom g.N.SystemNode.places gg d c.in-Ok.left.air.history c.in-Ok.left.nodes.items c.in-Ok.left.rest
run_left g c tells gg d asked down =
    let n = g.N.SiteNode in
    let o = c.in-Ok.ensures in
    let laws = g.met.N.SystemNode g.world.𝓛 g.world.𝓜 g.world.𝓡 ((λ s x. x), (λ x. x), (λ x. x), λ x. x) in
    runs_from n.leads n.phase_of n.stands n.number n.at_rest_as n.spends g.N.SystemNode.places laws.walks c.aired_is_run.ensures c.rest_of_states.ensures.rest c.node_numbers.ensures c.numbers_end.ensures c.dead_have_no_entry.ensures gg d c.args.plan c.args.kinds.now
    c.in-Ok.left.air.history c.args.nodes.items c.in-Ok.left.nodes.items c.in-Ok.left.rest (c.requires.count ∙ sym (ap count_of asked)) o.count o.heard.aired
    (λ k le. o.heard.others k (omega (arith, le, c.requires.count, kinds_count c.args.config.now.joiners c.args.config.now.replicas c.args.kinds.now c.requires.kinds))) (dead_replicas gg c.args.plan _ (c.requires.kinds ∙ sym (ap (λ k. kinds_of k.joiners k.replicas) asked))) down (o.walked tells) o.rest

pub settle-requires-after_bounds : goal.settle-requires-after_bounds
settle-requires-after_bounds g c =
    let disks_of = g.N.Parting.disks_of in
    let ws = c.in-Ok.left.nodes.items in
    let items = c.part_all-parts.result.0.disks.items in
    let front = in_front c.args.parts.disks.items c.push_reserved.new.self.items c.args.topology (all_from (λ i w. disks_of c.args.config.now i w.0) 0 ws) c.requires.empty.0 c.push_reserved.ensures.items in
    let many = ap length (c.part_all-parts.ensures.disks ∙ front) in
    let laws = g.met.N.Parting g.world.𝓛 g.world.𝓜 g.world.𝓡 ((λ s x. x), (λ x. x), (λ x. x), λ x. x) in
    let same = same_count (disks_of c.args.config.now) g.N.SiteNode.disk_count (laws.counted c.args.config.now) 0 c.args.nodes.items ws c.in-Ok.ensures.count c.in-Ok.ensures.disks in
    omega (arith, many, length-map items as_lent, same, c.requires.places)

pub returns-in-Ok-clause-over : goal.returns-in-Ok-clause-over
returns-in-Ok-clause-over g c tells node_tells gg d asked held met down kept =
    let image = g.S.Disk.Disk.image in
    let inside = g.S.Store.image c.args.store.now in
    let after = g.S.Store.image c.settle.new.store in
    let n = g.N.SiteNode in
    let disks_of = g.N.Parting.disks_of in
    let ws = c.in-Ok.left.nodes.items in
    let rose = Rose (g.S.Store.faults c.args.store.now) (g.S.Store.faults c.settle.new.store) in
    let laws = g.met.N.SystemNode g.world.𝓛 g.world.𝓜 g.world.𝓡 ((λ s x. x), (λ x. x), (λ x. x), λ x. x) in
    let numbers = c.node_numbers.ensures gg in
    let topology = as_lent c.args.topology in
    let count : length c.args.nodes.items ≡ node_count gg = c.requires.count ∙ sym (ap count_of asked) in
    let as_many = c.in-Ok.ensures.count ∙ count in
    let from = λ (e : Disks) (down_e : AreDownOver g.N.SystemNode.places gg e c.args.nodes.items). run_left g (goal.at.returns-in-Ok-clause-over g c).After-settle node_tells gg e asked down_e in
    let down_as = λ (e : Disks) (same : SameRecords gg d e). down_too g.N.SystemNode.places gg d e c.args.nodes.items same down in
    let front = in_front c.args.parts.disks.items c.push_reserved.new.self.items c.args.topology (all_from (λ i w. disks_of c.args.config.now i w.0) 0 ws) c.requires.empty.0 c.push_reserved.ensures.items in
    let whole = c.part_all-parts.ensures.disks ∙ front in
    let left = λ (name : DiskName) (b : List ℕ) (here : after name b). subst (λ l. MayBeLeft image inside l name b) whole (c.settle.ensures.left tells name b here) in
    let told = sym c.part_all-parts.ensures.fault in
    let ran : RunLog = record { air = c.in-Ok.left.air; seen = c.in-Ok.left.seen; opened = c.args.opened } in
    record {
      grown = λ s are_out disk bytes now. goes_on image g.N.SystemNode.places n.grown disks_of held gg c.args.config.now numbers c.args.nodes.items ws count c.in-Ok.ensures.count
          (have_grown n.leads n.phase_of n.stands n.number n.at_rest_as n.spends g.N.SystemNode.places laws.walks n.grown gg d c.args.nodes.items ws (λ m is. omega (arith, numbers.below m is, count)) down (c.in-Ok.ensures.grown node_tells))
          topology (g.S.Store.image s) inside after are_out left disk bytes now;
      left = λ e same. has_run image g.N.SystemNode.places n.grown disks_of held gg c.args.config.now asked numbers e ran ws c.in-Ok.left.rest (from e (down_as e same)) as_many topology kept inside after left;
      rest = λ e same.
          let run = from e (down_as e same) in
          ok_three _ _ _ _ c.settle.result c.settle.ensures.notes c.settle.ensures.pairs c.settle.ensures.whole
          (λ outcome notes pairs none.
          rests image g.N.SystemNode.places n.grown disks_of held gg c.args.config.now asked numbers e ran ws c.in-Ok.left.rest run as_many topology kept inside after left
          (at_rest c.args.config.now ws c.in-Ok.left.rest c.in-Ok.ensures.fault (told ∙ none)) c.once.ensures.records c.read.ensures.notes g.S.Disk.Disk.tells tells outcome.journals
          (subst (λ l. AreKeptIn g.S.Disk.Disk.tells image KeepsNotes (lent_replicas l) outcome.journals.notes.items) whole notes) (subst (λ l. AreKeptIn g.S.Disk.Disk.tells image KeepsPairs (lent_outputs l) outcome.journals.pairs.items) whole pairs) rose
          (no_stops image g.N.SystemNode.places n.grown disks_of held gg c.args.config.now asked numbers e ran ws c.in-Ok.left.rest run as_many topology kept inside after left g.S.Disk.Disk.faults g.F.Log.LogFile.faults n g.N.Parting.logs_of met (λ i b below. c.in-Ok.ensures.met i b (subst (λ k. i < k) c.in-Ok.ensures.count below)) rose (λ l among some. c.settle.ensures.disks l (subst (Mem l) (sym whole) among) some) c.none_stops.ensures));
      named = err_cases _ _ _ c.settle.result c.settle.ensures.told
          (λ f is.
          first_told image g.N.SystemNode.places n.grown disks_of held gg c.args.config.now asked numbers d ran ws c.in-Ok.left.rest (from d down) as_many topology kept inside after left g.S.Disk.Disk.faults g.F.Log.LogFile.faults n g.N.Parting.logs_of met (λ i b below. c.in-Ok.ensures.met i b (subst (λ k. i < k) c.in-Ok.ensures.count below)) rose (λ l among some. c.settle.ensures.disks l (subst (Mem l) (sym whole) among) some) c.in-Ok.ensures.caused f (told ∙ is))
          (λ f of.
          read_back_of image g.N.SystemNode.places n.grown disks_of held gg c.args.config.now asked numbers d ran ws c.in-Ok.left.rest (from d down) as_many topology kept inside after left
          (at_rest c.args.config.now ws c.in-Ok.left.rest c.in-Ok.ensures.fault (told ∙ of.0)) rose f g.S.Disk.Disk.tells tells (subst (λ l. IsOfDisks g.S.Disk.Disk.tells image l rose f) whole of.1));
    }

pub returns-in-Ok-clause-cause : goal.returns-in-Ok-clause-cause
returns-in-Ok-clause-cause g c met =
    let n = g.N.SiteNode in
    let disks_of = g.N.Parting.disks_of in
    let ws = c.in-Ok.left.nodes.items in
    let logs_rose = Rose (g.F.Source.faults c.args.files.now) (g.F.Source.faults c.settle.new.files) in
    let disks_rose = Rose (g.S.Store.faults c.args.store.now) (g.S.Store.faults c.settle.new.store) in
    err_cases _ _ _ c.settle.result c.settle.ensures.told
    (λ f is.
    fault_told g.S.Disk.Disk.faults g.F.Log.LogFile.faults n g.N.SystemNode.places disks_of g.N.Parting.logs_of met c.args.config.now logs_rose disks_rose c.in-Ok.left.air.history ws
    (λ i b below. c.in-Ok.ensures.met i b (subst (λ k. i < k) c.in-Ok.ensures.count below)) c.in-Ok.ensures.caused
    (λ l among some. c.settle.ensures.disks l (subst (Mem l) (sym c.part_all-parts.ensures.disks) (mem_right l (map as_lent c.push_reserved.new.self.items) (all_from (λ i w. disks_of c.args.config.now i w.0) 0 ws) among)) some)
    (λ l among some. c.settle.ensures.logs l (subst (Mem l) (sym c.part_all-parts.ensures.logs) (mem_right l c.args.parts.logs.items (all_from (λ i w. g.N.Parting.logs_of w.0) 0 ws) among)) some) f (sym c.part_all-parts.ensures.fault ∙ is))
    (λ f of. disks_counted g.S.Disk.Disk.tells g.S.Disk.Disk.image (map as_lent c.part_all-parts.result.0.disks.items) logs_rose disks_rose f of.1)

pub returns-in-Ok-clause-stopped : goal.returns-in-Ok-clause-stopped
returns-in-Ok-clause-stopped g c =
    let h = c.in-Ok.left.air.history in
    err_cases _ _ _ c.settle.result c.settle.ensures.told
    (λ f is n named. first_ended g.N.SiteNode.faults g.N.SiteNode.waits c.args.config.now h c.in-Ok.left.nodes.items (λ i b below. c.in-Ok.ensures.met i b (subst (λ k. i < k) c.in-Ok.ensures.count below)) f n (sym c.part_all-parts.ensures.fault ∙ is) named)
    (λ f of n named. disks_alone _ _ _ _ (stop_count (made_by n h) ≡ 8) f n of.1 named)

-- where no run began all is given back
given_back : (g : Over) (c : After-give_parts g) → IsTrue g.S.Disk.Disk.tells → (disk : DiskName) (bytes : List ℕ) → g.S.Store.image c.give_parts.new.store disk bytes
    → MayBeLeft g.S.Disk.Disk.image (g.S.Store.image c.args.store.now) (as_lent c.args.topology ∷ all_from (g.N.Parting.disks_of c.args.config.now) 0 c.args.nodes.items) disk bytes
given_back g c tells disk bytes now =
    let disks_of = g.N.Parting.disks_of in
    let items = c.push_reserved.new.self.items in
    let front = in_front c.args.parts.disks.items items c.args.topology (all_from (disks_of c.args.config.now) 0 c.args.nodes.items) c.requires.empty.0 c.push_reserved.ensures.items in
    let whole = c.apart-parts.ensures.disks ∙ ap (λ v. map as_lent items ++ all_from (disks_of c.args.config.now) 0 v.items) c.in-Err.ensures.back ∙ front in
    subst (λ l. MayBeLeft g.S.Disk.Disk.image (g.S.Store.image c.args.store.now) l disk bytes) whole (c.give_parts.ensures.left tells disk bytes now)

pub returns-in-Err-clause-idle : goal.returns-in-Err-clause-idle
returns-in-Err-clause-idle g c tells none disk bytes now = given_back g (goal.at.returns-in-Err-clause-idle g c).After-give_parts tells disk bytes now

pub returns-in-Err-clause-over : goal.returns-in-Err-clause-over
returns-in-Err-clause-over g c tells node_tells gg d asked held met down kept =
    let image = g.S.Disk.Disk.image in
    let inside = g.S.Store.image c.args.store.now in
    let others = all_from (g.N.Parting.disks_of c.args.config.now) 0 c.args.nodes.items in
    record {
      grown = λ s out disk bytes now. given_goes_on image (g.S.Store.image s) inside (as_lent c.args.topology) others out disk bytes (given_back g (goal.at.returns-in-Err-clause-over g c).After-give_parts tells disk bytes now);
      left = λ e same. none_left _ _ c.requires.none;
      rest = λ e same. tt;
      named = tt;
    }

pub returns-in-Ok-clause-stops : goal.returns-in-Ok-clause-stops
returns-in-Ok-clause-stops g c planned node_planned gg d s asked held down laws named all =
    let disk = g.S.Disk.Disk in
    let n = g.N.SiteNode in
    let disks_of = g.N.Parting.disks_of in
    let left = Left g.S.Store.stops g.S.Store.made s in
    let nodes = c.args.nodes.items in
    let ws = c.in-Ok.left.nodes.items in
    let h = c.in-Ok.left.air.history in
    let count : length nodes ≡ node_count gg = c.requires.count ∙ sym (ap count_of asked) in
    let others = all_from (λ i w. disks_of c.args.config.now i w.0) 0 ws in
    let whole = c.part_all-parts.ensures.disks ∙ in_front c.args.parts.disks.items c.push_reserved.new.self.items c.args.topology others c.requires.empty.0 c.push_reserved.ensures.items in
    let plan = c.in-Ok.ensures.plan node_planned in
    let numbers = c.node_numbers.ensures gg in
    let with_topology = λ (up : AreUp disk.is_down others). subst (AreUp disk.is_down) (sym whole) ((λ other. absurd (other named)), up) in
    record {
      stops = none_too_often disk.stops disk.made disk.faults disk.is_down n.stops_left n.faults n.waits disks_of laws c.args.config.now left nodes ws h all.1 plan
          disk.image g.N.SystemNode.places n.grown held gg asked numbers d count down c.in-Ok.ensures.count;
      calm = λ none.
          let calm = all_calm disk.stops disk.made disk.faults disk.is_down n.stops_left n.faults n.waits disks_of laws c.args.config.now left nodes ws h all.1 plan c.in-Ok.ensures.count c.requires.up none in
          c.settle.ensures.calm planned (with_topology calm.0) (subst (Each (λ l. disk.faults l.disk ≡ 0)) (sym whole) (all.0.calm, calm.1));
      spared = λ are.
          let told = sym c.part_all-parts.ensures.fault in
          let rise = none_told disk.stops disk.made disk.faults disk.is_down n.stops_left n.faults n.waits disks_of laws c.args.config.now left nodes ws h all.1 plan
          disk.image g.N.SystemNode.places n.grown held gg asked numbers d count down c.in-Ok.ensures.count are.few c.in-Ok.ensures.met in
          err_cases _ _ _ c.settle.result c.settle.ensures.told
          (λ f is. rise f (told ∙ is))
          (λ f of.
          of.2 planned
          (with_topology
          (all_up disk.stops disk.made disk.faults disk.is_down n.stops_left n.faults n.waits disks_of laws c.args.config.now left nodes ws h all.1 plan
          (λ i b below. (c.in-Ok.ensures.met i b (omega (arith, below, c.in-Ok.ensures.count))).up (none_at c.args.config.now 0 ws i b (told ∙ of.0) below)))));
    }

pub returns-in-Err-clause-stops : goal.returns-in-Err-clause-stops
returns-in-Err-clause-stops g c planned node_planned gg d s asked held down laws named all =
    let disk = g.S.Disk.Disk in
    let disks_of = g.N.Parting.disks_of in
    let items = c.push_reserved.new.self.items in
    let others = all_from (disks_of c.args.config.now) 0 c.args.nodes.items in
    let front = in_front c.args.parts.disks.items items c.args.topology others c.requires.empty.0 c.push_reserved.ensures.items in
    let whole = c.apart-parts.ensures.disks ∙ ap (λ v. map as_lent items ++ all_from (disks_of c.args.config.now) 0 v.items) c.in-Err.ensures.back ∙ front in
    none_planned _ _ _ gg _ _ _ c.requires.none
    (λ none. c.give_parts.ensures.calm (subst (Each (λ l. disk.faults l.disk ≡ 0)) (sym whole) (each_calm disk.stops disk.made disk.faults (Left g.S.Store.stops g.S.Store.made s) (as_lent c.args.topology ∷ others) all)))
    (λ are at is. absurd (cc is))
