use Rattle.std.proofs.Common.{◌∷◌, [], length, ap, length-append, arith, rules, ◌≡◌}
use Rattle.site_run.proofs.Words.{IsPermutation-cons, IsPermutation-trans}
use Rattle.site_run.proofs.Making.{are_down_over, at_first, ended, from_at, none_made, one_made, opened_count, stopped}
use Rattle.site_run.proofs.built.building.build.Goals as goal

pub loop-number-init : goal.loop-number-init
loop-number-init g c =
    let room = c.requires.room in
    record {
      count = omega (arith, ap length room.nodes.0);
      room = room.nodes.1;
      made = none_made _ _ _ _ _ _ _ _ _ room.nodes.0 (at_first _ c.requires.ranges c.requires.named c.requires.logs.clicks c.requires.logs.queries (room.disks.0, room.logs.0));
    }

pub make-requires : goal.make-requires
make-requires g c =
    let i = c.loop-number.invariant in
    record { number = omega (arith, c.loop-number-test.true, ap (λ k. k.joiners) i.made.config, ap (λ k. k.replicas) i.made.config); left = from_at _ _ _ _ _ _ _ _ _ _ _ i.made i.count }

pub loop-number-preserved : goal.loop-number-preserved
loop-number-preserved g c =
    let i = c.loop-number.invariant in
    record {
      count = omega (arith, i.count, ap length c.push_reserved.ensures.items, length-append c.loop-number.nodes.items (c.in-Some.node ∷ []));
      room = omega (arith, i.room, c.push_reserved.ensures.capacity);
      made = one_made _ _ _ _ _ _ _ _ _ _ _ i.made _ _ _ i.count c.push_reserved.ensures.items c.in-Some.ensures;
    }

pub give_up-requires : goal.give_up-requires
give_up-requires g c =
    let i = c.loop-number.invariant in
    let so = stopped _ _ _ _ _ _ _ _ _ _ _ i.made _ i.count c.in-None.ensures in
    let few = c.in-None.ensures.few in
    let opened = opened_count _ _ _ c.requires.named in
    let j = ap (λ k. k.joiners) so.config in
    let r = ap (λ k. k.replicas) so.config in
    record {
      few = omega (arith, i.count, c.loop-number-test.true, c.requires.ranges.few, c.requires.ranges.replicas);
      disks = omega (arith, few.0, i.count, c.loop-number-test.true, j, r);
      logs = omega (arith, few.1, i.count, c.loop-number-test.true, j, r);
      all_disks = omega (arith, so.disk_count, opened, j, r);
      all_logs = omega (arith, so.log_count, c.requires.logs.clicks, c.requires.logs.queries, j, r);
    }

pub returns-in-None-clause-disks : goal.returns-in-None-clause-disks
returns-in-None-clause-disks g c =
    let i = c.loop-number.invariant in
    IsPermutation-trans _ _ _ (IsPermutation-cons _ _ _ (stopped _ _ _ _ _ _ _ _ _ _ _ i.made _ i.count c.in-None.ensures).disks) c.give_up.ensures.disks

pub returns-in-None-clause-logs : goal.returns-in-None-clause-logs
returns-in-None-clause-logs g c =
    let i = c.loop-number.invariant in
    IsPermutation-trans _ _ _ (stopped _ _ _ _ _ _ _ _ _ _ _ i.made _ i.count c.in-None.ensures).logs c.give_up.ensures.logs

pub returns-clause-numbers : goal.returns-clause-numbers
returns-clause-numbers g c i d below = (c.loop-number.invariant.made.up.at i d below).numbered

pub returns-clause-up : goal.returns-clause-up
returns-clause-up g c i d below = (c.loop-number.invariant.made.up.at i d below).up

pub returns-clause-places : goal.returns-clause-places
returns-clause-places g c tells s d start =
    let i = c.loop-number.invariant in
    are_down_over _ s d (c.node_numbers.ensures s) _ (omega (arith, i.count, c.loop-number-test.false, c.loop-number.auto.number-end, ap (λ k. k.joiners) start.logs.numbers, ap (λ k. k.replicas) start.logs.numbers)) (i.made.over tells s d start).1

pub returns-clause-held : goal.returns-clause-held
returns-clause-held g c =
    let i = c.loop-number.invariant in
    (ended _ _ _ _ _ _ _ _ _ _ i.made (omega (arith, i.count, c.loop-number-test.false, c.loop-number.auto.number-end))).held

pub returns-clause-none : goal.returns-clause-none
returns-clause-none g c = c.loop-number.invariant.made.left.none

pub returns-clause-room : goal.returns-clause-room
returns-clause-room g c =
    let config = c.loop-number.invariant.made.config in
    let j = ap (λ k. k.joiners) config in
    let r = ap (λ k. k.replicas) config in
    (omega (arith, c.loop-number.stock.disk_room, j, r), omega (arith, c.loop-number.stock.log_room, j, r))

pub destroy_empty-requires : goal.destroy_empty-requires
destroy_empty-requires g c =
    let i = c.loop-number.invariant in
    let end = ended _ _ _ _ _ _ _ _ _ _ i.made (omega (arith, i.count, c.loop-number-test.false, c.loop-number.auto.number-end)) in
    let none : length c.loop-number.stock.rest.items ≡ 0 = end.rest in
    search rules

pub destroy_empty-requires-2 : goal.destroy_empty-requires-2
destroy_empty-requires-2 g c =
    let i = c.loop-number.invariant in
    let end = ended _ _ _ _ _ _ _ _ _ _ i.made (omega (arith, i.count, c.loop-number-test.false, c.loop-number.auto.number-end)) in
    let none : length c.loop-number.stock.logs.clicks.items ≡ 0 = end.clicks in
    search rules

pub destroy_empty-requires-3 : goal.destroy_empty-requires-3
destroy_empty-requires-3 g c =
    let i = c.loop-number.invariant in
    let end = ended _ _ _ _ _ _ _ _ _ _ i.made (omega (arith, i.count, c.loop-number-test.false, c.loop-number.auto.number-end)) in
    let none : length c.loop-number.stock.logs.queries.items ≡ 0 = end.queries in
    search rules
