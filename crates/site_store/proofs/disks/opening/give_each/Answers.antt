use Rattle.std.proofs.Common.{◌≡◌, ◌++◌, ◌∷◌, [], ◌∙◌, sym, subst, arith}
use Rattle.site_store.proofs.Words.{Each, each_append, AllKept, added, lent_by}
use Rattle.site_store.proofs.Lending.{given_last, length_more}
use Rattle.site_store.proofs.Planned.{last_calm}
use Rattle.site_store.proofs.disks.opening.give_each.Goals as goal

pub loop-one-preserved : goal.loop-one-preserved
loop-one-preserved g c =
    let left = g.S.Disk.Disk.image in
    let one = c.in-Some.one in
    let items = c.loop-one.disks.items in
    let rest = c.pop.new.self.items in
    let inv = c.loop-one.invariant in
    let cut : items ≡ rest ++ one ∷ [] = c.in-Some.ensures.items in
    let size = length_more rest items one cut in
    record {
      left = λ tells name bytes now. (
          let images = rw (c.name-name.ensures, c.into_disk.ensures.disk) at (c.give.ensures.images tells) in
          inv.left tells name bytes (given_last left _ _ lent_by items rest one cut images (λ other not. c.give.ensures.others tells other (λ e. not (e ∙ c.name-name.ensures))) name bytes now)
          );
      keep = λ tells left_all. inv.keep tells (subst (Each (λ o. AllKept left o)) (sym cut) (each_append (λ o. AllKept left o) rest (one ∷ []) left_all (c.into_disk.ensures.keeps tells, tt)));
      room = omega (arith, size, inv.room, c.give.ensures.places);
      places = omega (arith, size, inv.places, c.give.ensures.places);
      calm = λ none. (
          last_calm g.S.Disk.Disk.faults lent_by items rest one _ _ _ cut (subst (λ x. g.S.Store.faults c.give.new.self ≡ added (g.S.Store.faults c.loop-one.store) (g.S.Disk.Disk.faults x)) c.into_disk.ensures.disk c.give.ensures.count)
          (inv.calm none)
          );
      count = omega (arith, inv.count, c.give.ensures.count);
    }

pub returns-clause-calm : goal.returns-clause-calm
returns-clause-calm g c none = (c.loop-one.invariant.calm none).1
