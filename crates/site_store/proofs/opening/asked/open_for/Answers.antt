use Rattle.std.proofs.Common.{◌∷◌, ◌∙◌, subst}
use Rattle.site_store.proofs.Words.{AreKept, AreTold, IsFirstDisk, IsUnopened, lent_all, topology_lent, values_of}
use Rattle.site_store.proofs.Causes.{judged, unopened_cause}
use Rattle.site_store.proofs.Lending.{stays_as}
use Rattle.site_store.specs.Plans.{Left}
use Rattle.site_store.proofs.Planned.{each_calm, unfit_early}
use Rattle.site_store.proofs.opening.asked.open_for.Goals as goal

pub returns-in-Some-clause-back : goal.returns-in-Some-clause-back
returns-in-Some-clause-back g c tells = stays_as _ _ _ _ _ (c.in-Ok.ensures.lent tells) (c.give_back.ensures.left tells)

pub returns-in-Some-clause-cause : goal.returns-in-Some-clause-cause
returns-in-Some-clause-cause g c =
    let tells = g.S.Disk.Disk.tells in
    let before = g.S.Store.image c.args.store.now in
    let k = values_of c.in-Ok.open.topology.value.kept c.in-Ok.open.disks.items in
    let kept = subst (λ n. AreKept tells before c.args.replicas n k) c.joiners_of.ensures c.in-Ok.ensures.kept in
    judged tells before c.args.replicas _ _ _ _ _ _ k c.in-Some.fault kept c.in-Some.ensures.cause

pub returns-in-Err-clause-cause : goal.returns-in-Err-clause-cause
returns-in-Err-clause-cause g c =
    let log = g.L.LogFile in
    let tells = g.S.Disk.Disk.tells in
    let before = g.S.Store.image c.args.store.now in
    let old = g.S.Store.faults c.args.store.now in
    let new = g.S.Store.faults c.open_disks.new.store in
    let told = AreTold log.tells (log.bytes c.args.clicks.now) c.args.end in
    unopened_cause tells before c.args.replicas c.args.asked.now told _ ⊥ old new c.in-Err.fault
    (subst (λ n. IsUnopened tells before old new (IsFirstDisk tells before c.args.replicas n) c.in-Err.fault) c.joiners_of.ensures c.in-Err.ensures.first)

pub returns-in-Some-clause-early : goal.returns-in-Some-clause-early
returns-in-Some-clause-early g c planned =
    let d = g.S.Disk.Disk in
    let s = g.S.Store in
    let log = g.L.LogFile in
    let opened = c.in-Ok.open in
    let plan = c.in-Ok.ensures.plan planned in
    let calm = each_calm d.stops d.made d.faults (Left s.stops s.made c.args.store.now) (topology_lent opened.topology.journal.disk ∷ lent_all opened.disks.items) plan.out in
    unfit_early s.stops s.made s.faults c.args.store.now c.give_back.new.store c.args.asked.now (AreTold log.tells (log.bytes c.args.clicks.now) c.args.end) _ (values_of opened.topology.value.kept opened.disks.items) c.in-Some.fault c.in-Some.ensures.cause
    (c.give_back.ensures.calm calm ∙ plan.still)
