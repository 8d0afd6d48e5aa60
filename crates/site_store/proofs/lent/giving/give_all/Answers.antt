use Rattle.std.proofs.Common.{rules, ◌≡◌, ◌++◌, ◌∷◌, [], arith}
use Rattle.site_store.proofs.Words.{all_lent, lent_of}
use Rattle.site_store.proofs.Lending.{given_last, none_left, length_more}
use Rattle.site_store.proofs.Planned.{last_calm}
use Rattle.site_store.proofs.Handing.{others_stay, last_counts}
use Rattle.site_store.proofs.lent.giving.give_all.Goals as goal

pub loop-one-preserved : goal.loop-one-preserved
loop-one-preserved g c =
    let one = c.in-Some.one in
    let items = c.loop-one.disks.items in
    let rest = c.pop.new.self.items in
    let inv = c.loop-one.invariant in
    let cut : items ≡ rest ++ one ∷ [] = c.in-Some.ensures.items in
    let size = length_more rest items one cut in
    record {
      left = λ tells name bytes now. (
          inv.left tells name bytes
          (given_last g.S.Disk.Disk.image (g.S.Store.image c.loop-one.store) (g.S.Store.image c.give.new.self) lent_of items rest one cut (c.give.ensures.images tells) (c.give.ensures.others tells) name bytes now)
          );
      room = omega (arith, size, inv.room, c.give.ensures.places);
      places = omega (arith, size, inv.places, c.give.ensures.places);
      count = omega (arith, inv.count, c.give.ensures.count);
      calm = λ none. last_calm g.S.Disk.Disk.faults lent_of items rest one _ _ _ cut c.give.ensures.count (inv.calm none);
      rose = last_counts g.S.Disk.Disk.faults c.args.disks.items items rest one (g.S.Store.faults c.args.store.now) (g.S.Store.faults c.loop-one.store) (g.S.Store.faults c.give.new.self) cut inv.count c.give.ensures.count inv.rose;
    }

pub returns-clause-others : goal.returns-clause-others
returns-clause-others g c tells name lacks =
    let left = g.S.Disk.Disk.image in
    let after = g.S.Store.image c.loop-one.store in
    others_stay left (g.S.Store.image c.args.store.now) after (all_lent c.args.disks.items) name lacks
    (λ bytes now. c.loop-one.invariant.left tells name bytes (none_left left after lent_of c.loop-one.disks.items name bytes (search rules) now))
