use Rattle.std.proofs.Common.{rules, ◌≡◌, ◌<◌, [], ◌∷◌, ◌++◌, length, ap, subst, sym, ◌∙◌, arith}
use Rattle.site_store.proofs.Words.{map-append, Each, lent_by, DiskName, Within, Lacks, IsLent, IsOfKind, IsKept, kept_by, lent_all, IsFirst, other_names}
use Rattle.site_store.proofs.Faults.{unopened_more}
use Rattle.site_store.proofs.Lending.{names_more, each_more, opened_more, keeps_first, lacks_next, length_more, cut_back}
use Rattle.site_store.proofs.Values.{were_journals}
use Rattle.site_store.proofs.Refusals.{first_at}
use Rattle.site_store.specs.Plans.{Left, AreAsPlanned}
use Rattle.site_store.proofs.Planned.{each_calm, early_on, none_taken, taken_on}
use Rattle.site_store.proofs.disks.opening.open_others.Goals as goal

pub loop-i-init : goal.loop-i-init
loop-i-init g c =
    let image = g.S.Store.image c.args.store.now in
    let none = c.in-Ok-with_capacity.ensures.items in
    record {
      names = search rules;
      many = search rules;
      room = search rules;
      kinds = subst (Each (λ o. IsOfKind o.name o.kept)) (sym none) tt;
      lent = λ tells. subst (λ l. IsLent g.S.Disk.Disk.image image image (lent_all l)) (sym none) (record { out = tt; others = λ name lacks c now. now });
      kept = λ tells. subst (Each (λ o. IsKept image (kept_by o))) (sym none) tt;
      places = search rules;
      plan = λ planned. (let d = g.S.Disk.Disk in let s = g.S.Store in let at = c.args.store.now in subst (λ l. AreAsPlanned d s at at (lent_all l)) (sym none) (none_taken d s at));
      count = omega arith;
    }

pub loop-i-preserved : goal.loop-i-preserved
loop-i-preserved g c =
    let image = g.S.Store.image in
    let left = g.S.Disk.Disk.image in
    let before = image c.args.store.now in
    let mid = image c.loop-i.store in
    let names = c.in-Ok.names.items in
    let i = c.loop-i.i in
    let items = c.loop-i.disks.items in
    let now = c.push_reserved.new.self.items in
    let one = c.in-Ok-open_one.one in
    let inv = c.loop-i.invariant in
    let more = c.push_reserved.ensures.items in
    let e = c.in-Ok-open_one.ensures in
    let name = c.index.result.now in
    let lt : i < length names = omega (arith, c.loop-i-test.true) in
    let lacks = lacks_next _ _ names i name items c.in-Ok.ensures inv.names lt c.index.ensures in
    record {
      names = names_more names i name items now one inv.names lt (e.name ∙ c.index.ensures) more;
      many = omega (arith, inv.many, c.push_reserved.ensures.len);
      room = omega (arith, inv.room, c.push_reserved.ensures.capacity);
      kinds = each_more (λ o. IsOfKind o.name o.kept) items now one inv.kinds (subst (λ (n : DiskName). IsOfKind n one.kept) (sym e.name) e.kind) more;
      lent = λ tells. opened_more left before mid (image c.open_one.new.store) name items now one (inv.lent tells) lacks e.name (e.stays tells) (e.others tells) more;
      kept = λ tells. each_more (λ o. IsKept before (kept_by o)) items now one (inv.kept tells) (keeps_first left before mid items one name (inv.lent tells) lacks e.name (e.kept tells)) more;
      places = omega (arith, inv.places, e.place, length_more items now one more);
      plan = λ planned. (
          let whole : lent_all now ≡ lent_all items ++ lent_by one ∷ [] = ap lent_all more ∙ map-append lent_by items (one ∷ []) in
          subst (AreAsPlanned g.S.Disk.Disk g.S.Store c.args.store.now c.open_one.new.store) (sym whole)
          (taken_on _ _ _ _ _ (lent_all items) (lent_by one ∷ []) (inv.plan planned) (subst (Lacks (lent_all items)) (sym e.name) lacks, tt) (e.plan planned))
          );
      count = omega (arith, inv.count, c.open_one.ensures.count);
    }

pub returns-in-Err-clause-back : goal.returns-in-Err-clause-back
returns-in-Err-clause-back g c tells = cut_back _ _ _ (g.S.Store.image c.open_one.new.store) _ _ (c.loop-i.invariant.lent tells) (c.in-Err.ensures.back tells) (c.give_each.ensures.left tells)

pub returns-in-Err-clause-first : goal.returns-in-Err-clause-first
returns-in-Err-clause-first g c =
    let tells = g.S.Disk.Disk.tells in
    let before = g.S.Store.image c.args.store.now in
    let mid = g.S.Store.image c.loop-i.store in
    let items = c.loop-i.disks.items in
    let inv = c.loop-i.invariant in
    let lt : c.loop-i.i < length c.in-Ok.names.items = omega (arith, c.loop-i-test.true) in
    let lacks = lacks_next _ _ _ _ _ items c.in-Ok.ensures inv.names lt c.index.ensures in
    unopened_more tells before mid _ _ _ _ (λ (disk : DiskName). disk ≡ c.index.result.now) (IsFirst tells before (other_names c.args.joiners c.args.replicas)) c.in-Err.fault inv.count c.give_each.ensures.count
    (λ disk named. first_at tells before _ _ _ _ disk c.in-Ok.ensures lt (λ sure. were_journals before items _ inv.names inv.kinds (inv.kept sure)) (named ∙ c.index.ensures))
    (λ sure disk named. subst (λ (n : DiskName). Within (before n) (mid n)) (sym named) ((inv.lent sure).others c.index.result.now lacks)) c.in-Err.ensures.err

pub returns-in-Err-clause-early : goal.returns-in-Err-clause-early
returns-in-Err-clause-early g c planned =
    let d = g.S.Disk.Disk in
    let s = g.S.Store in
    let items = c.loop-i.disks.items in
    let plan = c.loop-i.invariant.plan planned in
    let lt : c.loop-i.i < length c.in-Ok.names.items = omega (arith, c.loop-i-test.true) in
    let lacks = lacks_next _ _ _ _ _ items c.in-Ok.ensures c.loop-i.invariant.names lt c.index.ensures in
    early_on s.stops s.made s.faults c.args.store.now c.loop-i.store c.open_one.new.store c.give_each.new.store d.tells (s.image c.loop-i.store) _ _ (λ (disk : DiskName). disk ≡ c.index.result.now) c.in-Err.fault c.in-Err.ensures.err
    (λ disk named. plan.others disk (subst (Lacks (lent_all items)) (sym named) lacks)) plan.still
    (c.give_each.ensures.calm (each_calm d.stops d.made d.faults (Left s.stops s.made c.args.store.now) (lent_all items) plan.out)) (c.in-Err.ensures.early planned)
