use Rattle.std.proofs.Common.{◌∷◌, Err, refl, ap, ◌∙◌, sym}
use Rattle.site_store.proofs.Words.{lent_all, topology_lent}
use Rattle.site_store.proofs.Causes.{unwritten_memory}
use Rattle.site_store.proofs.Leaving.{back_stays, back_grown, back_written, out_for, topology_written, joiners_same}
use Rattle.site_store.proofs.Recorded.{left_with, whole_with}
use Rattle.site_store.proofs.Sound.{welcome}
use Rattle.site_store.specs.Plans.{Left}
use Rattle.site_store.proofs.Planned.{each_calm, first_used, unwritten_early}
use Rattle.site_store.proofs.opening.store.open_store.Goals as goal

pub returns-in-Err-clause-sound : goal.returns-in-Err-clause-sound
returns-in-Err-clause-sound g c tells s asked sound = c.stays.ensures s c.args.store.now c.open_for.new.store sound (λ disk is. c.in-Err.ensures.back tells disk)

pub returns-in-Err-clause-welcome : goal.returns-in-Err-clause-welcome
returns-in-Err-clause-welcome g c sure log_sure = λ s asked same log_is end_is sound.
    let cause = rw (sym same) at c.in-Err.ensures.cause in
    welcome _ sure _ log_sure _ _ _ _ _ c.read.ensures.topology c.fits.ensures.only s log_is end_is sound c.args.asked asked c.in-Err.fault cause

pub returns-in-Ok-keep_topology-clause-lent : goal.returns-in-Ok-keep_topology-clause-lent
returns-in-Ok-keep_topology-clause-lent g c tells =
    let k = c.in-Ok-keep_topology.ensures in
    out_for _ _ _ _ (topology_lent c.keep_topology.new.topology.journal.disk) _ (c.in-Ok.ensures.lent tells) refl c.args.asked (k.durable tells) (k.grows tells)

pub returns-in-Ok-keep_topology-clause-were_left : goal.returns-in-Ok-keep_topology-clause-were_left
returns-in-Ok-keep_topology-clause-were_left g c sure s records asked same of =
    let kept = rw (sym same) at c.in-Ok.ensures.kept in
    left_with _ sure _ _ s _ kept (joiners_same _ c.args.asked c.in-Ok.ensures.passed.topology ∙ sym asked.joiners) records of c.read.ensures.topology c.read.ensures.notes

pub returns-in-Ok-keep_topology-clause-whole : goal.returns-in-Ok-keep_topology-clause-whole
returns-in-Ok-keep_topology-clause-whole g c sure s records asked same sound of =
    whole_with s (g.S.Store.image c.args.store.now) records (returns-in-Ok-keep_topology-clause-were_left g c sure s records asked same of) (c.opened.ensures s c.args.store.now) c.whole_stores.ensures.topology sound

pub returns-in-Err-keep_topology-clause-left : goal.returns-in-Err-keep_topology-clause-left
returns-in-Err-keep_topology-clause-left g c tells =
    back_written _ _ _ _ (topology_lent c.keep_topology.new.topology.journal.disk) _ (c.in-Ok.ensures.lent tells) refl _ (c.give_back.ensures.left tells) c.args.asked refl (c.in-Err-keep_topology.ensures.old_or_new tells)

pub returns-in-Err-keep_topology-clause-back : goal.returns-in-Err-keep_topology-clause-back
returns-in-Err-keep_topology-clause-back g c tells other =
    let e = c.in-Err-keep_topology.ensures in
    unwritten_memory _ c.in-Err-keep_topology.fault _ _ e.unwritten other
    (λ is. back_stays _ _ _ _ (topology_lent c.keep_topology.new.topology.journal.disk) _ (c.in-Ok.ensures.lent tells) refl _ (c.give_back.ensures.left tells) (e.stays tells (ap Err is)))

pub returns-in-Err-keep_topology-clause-sound : goal.returns-in-Err-keep_topology-clause-sound
returns-in-Err-keep_topology-clause-sound g c tells s asked sound =
    let was = c.in-Ok.ensures.kept.topology tells in
    c.topology_first.ensures s c.args.store.now c.give_back.new.store sound (topology_written c.args.asked s _ _ asked (was.0, was.1) (returns-in-Err-keep_topology-clause-left g c tells))

pub returns-in-Err-keep_topology-clause-grown : goal.returns-in-Err-keep_topology-clause-grown
returns-in-Err-keep_topology-clause-grown g c tells =
    back_grown _ _ _ _ (topology_lent c.keep_topology.new.topology.journal.disk) _ (c.in-Ok.ensures.lent tells) refl _ (c.give_back.ensures.left tells) (c.in-Err-keep_topology.ensures.grows tells)

pub returns-in-Ok-keep_topology-clause-plan : goal.returns-in-Ok-keep_topology-clause-plan
returns-in-Ok-keep_topology-clause-plan g c planned =
    first_used _ _ _ _ 4 _ (topology_lent c.keep_topology.new.topology.journal.disk) _ refl (c.in-Ok-keep_topology.ensures.plan planned) (c.in-Ok.ensures.plan planned)

pub returns-in-Err-keep_topology-clause-early : goal.returns-in-Err-keep_topology-clause-early
returns-in-Err-keep_topology-clause-early g c planned =
    let d = g.S.Disk.Disk in
    let s = g.S.Store in
    let plan = c.in-Ok.ensures.plan planned in
    let e = c.in-Err-keep_topology.ensures in
    let opened = c.in-Ok.open in
    let each = each_calm d.stops d.made d.faults (Left s.stops s.made c.args.store.now) (topology_lent opened.topology.journal.disk ∷ lent_all opened.disks.items) plan.out in
    unwritten_early s.stops s.made s.faults c.args.store.now c.give_back.new.store _ _ c.in-Err-keep_topology.fault e.unwritten each.0
    (λ none. c.keep_topology.ensures.calm planned (plan.out.0.most 0 none)) (λ is. c.give_back.ensures.calm (e.no_fault (ap Err is) ∙ each.0, each.1) ∙ plan.still)
