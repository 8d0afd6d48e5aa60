use Rattle.std.proofs.Common.{◌≢◌, [], ◌∷◌, inr, ℕ, ap, sym, ◌∙◌, subst, arith}
use Rattle.site_store.proofs.Words.{each_more, DiskName, Lacks, lent_all, topology_lent, StaysAs, IsKeptIn, IsOfKind, IsKept, KeepsAs, IsFirst, IsFirstDisk, other_names}
use Rattle.outside.specs.declared.store.DiskName.TheVariants as name
use Rattle.site_store.proofs.Faults.{unopened_more}
use Rattle.site_store.proofs.Lending.{first_lent, lacks_by_names}
use Rattle.site_store.proofs.Names.{not_topology}
use Rattle.site_store.proofs.Taking.{kept_before, first_before, first_other}
use Rattle.site_store.proofs.Values.{names_kept, each_kept}
use Rattle.site_store.proofs.Planned.{early_on, none_added, taken_as, taken_on}
use Rattle.site_store.proofs.disks.all.open_disks.Goals as goal

pub returns-in-Ok-open_others-clause-kept : goal.returns-in-Ok-open_others-clause-kept
returns-in-Ok-open_others-clause-kept g c =
    let all = c.in-Ok-open_others.disks.items in
    let away = lacks_by_names name.Topology all _ c.in-Ok-open_others.ensures.named (not_topology c.joiners_of.result c.args.replicas) in
    record {
      topology = λ sure. rw c.into_topology-topology.ensures.kept at (c.in-Ok.ensures.kept sure);
      named = names_kept all ∙ c.in-Ok-open_others.ensures.named ∙ ap (λ n. other_names n c.args.replicas) c.joiners_of.ensures;
      kinds = each_kept (λ d. IsOfKind d.name d.kept) all c.in-Ok-open_others.ensures.kinds;
      kept = λ sure. each_kept (IsKept (g.S.Store.image c.args.store.now)) all (kept_before _ _ name.Topology (c.in-Ok.ensures.others sure) all away (c.in-Ok-open_others.ensures.kept sure));
    }

pub returns-in-Ok-open_others-clause-lent : goal.returns-in-Ok-open_others-clause-lent
returns-in-Ok-open_others-clause-lent g c tells =
    let away = lacks_by_names name.Topology c.in-Ok-open_others.disks.items _ c.in-Ok-open_others.ensures.named (not_topology c.joiners_of.result c.args.replicas) in
    let stays = subst (λ d. StaysAs (g.S.Store.image c.args.store.now name.Topology) (g.S.Disk.Disk.image d)) c.into_topology-topology.ensures.disk (c.in-Ok.ensures.stays tells) in
    first_lent _ _ _ _ _ _ stays (c.in-Ok.ensures.others tells) (c.in-Ok-open_others.ensures.lent tells) away

pub returns-in-Err-open_others-clause-first : goal.returns-in-Err-open_others-clause-first
returns-in-Err-open_others-clause-first g c =
    let tells = g.S.Disk.Disk.tells in
    let before = g.S.Store.image c.args.store.now in
    let mid = g.S.Store.image c.open_one.new.store in
    let n = c.joiners_of.result in
    let away = not_topology n c.args.replicas in
    let others = c.in-Ok.ensures.others in
    unopened_more tells before mid _ _ _ _ (IsFirst tells mid (other_names n c.args.replicas)) (IsFirstDisk tells before c.args.replicas c.args.asked) c.in-Err-open_others.fault c.open_one.ensures.count (omega (arith, c.give.ensures.count))
    (λ disk first. inr (
      c.into_topology-topology.result.value.kept,
      (λ sure. subst (λ k. IsKeptIn (before name.Topology) (KeepsAs k)) c.into_topology-topology.ensures.kept (c.in-Ok.ensures.kept sure)),
      subst (λ (m : ℕ). IsFirst tells before (other_names m c.args.replicas) disk) c.joiners_of.ensures (first_before tells before mid name.Topology others (other_names n c.args.replicas) disk away first),
    ))
    (λ sure disk first. others sure disk (first_other tells mid name.Topology (other_names n c.args.replicas) disk away first)) c.in-Err-open_others.ensures.first

pub returns-in-Ok-open_others-clause-plan : goal.returns-in-Ok-open_others-clause-plan
returns-in-Ok-open_others-clause-plan g c planned =
    let topology = topology_lent c.into_topology-topology.result.journal.disk in
    let all = lent_all c.in-Ok-open_others.disks.items in
    let away = lacks_by_names name.Topology c.in-Ok-open_others.disks.items _ c.in-Ok-open_others.ensures.named (not_topology c.joiners_of.result c.args.replicas) in
    let first = taken_as _ _ _ _ _ topology c.in-Ok.ensures.name c.into_topology-topology.ensures.disk (c.in-Ok.ensures.plan planned) in
    taken_on _ _ _ _ _ (topology ∷ []) all first
    (each_more (λ l. l.name ≢ name.Topology) (λ l. Lacks (topology ∷ []) l.name) all (λ l other. ((λ e. other (sym e)), tt)) away) (c.in-Ok-open_others.ensures.plan planned)

pub returns-in-Err-open_others-clause-early : goal.returns-in-Err-open_others-clause-early
returns-in-Err-open_others-clause-early g c planned =
    let d = g.S.Disk.Disk in
    let s = g.S.Store in
    let one = c.in-Ok.ensures in
    let plan = one.plan planned in
    let mid = c.open_one.new.store in
    let names = other_names c.joiners_of.result c.args.replicas in
    let apart = λ (disk : DiskName) (first : IsFirst d.tells (s.image mid) names disk). first_other d.tells (s.image mid) name.Topology names disk (not_topology c.joiners_of.result c.args.replicas) first in
    let met = ap d.faults (c.into_disk.ensures ∙ sym c.into_topology-topology.ensures.disk) ∙ plan.out.0.calm in
    early_on s.stops s.made s.faults c.args.store.now mid c.open_others.new.store c.give.new.self d.tells (s.image mid) _ _ (IsFirst d.tells (s.image mid) names) c.in-Err-open_others.fault c.in-Err-open_others.ensures.first
    (λ disk first. plan.others disk ((λ e. apart disk first (sym e ∙ one.name)), tt)) plan.still (none_added _ _ _ c.give.ensures.count met) (c.in-Err-open_others.ensures.early planned)
