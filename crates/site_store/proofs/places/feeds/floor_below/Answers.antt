use Rattle.std.proofs.Common.{◌≡◌, ◌∙◌, arith}
use Rattle.site_store.proofs.Stretches.{floor_found, floor_lower, floor_none}
use Rattle.site_store.proofs.places.feeds.floor_below.Goals as goal

pub returns-then-floor-from-clause-floor : goal.returns-then-floor-from-clause-floor
returns-then-floor-from-clause-floor g c = λ t.
    let here = rw (c.loop-to.invariant.same t) at (c.in_ok-floor.ensures.floor t) in
    floor_found _ _ c.loop-to.to c.args.at c.in_ok-floor.floor here c.if-floor-from.true c.loop-to.invariant.below (c.loop-to.invariant.none t)

pub loop-to-preserved : goal.loop-to-preserved
loop-to-preserved g c =
    record {
      none = λ t.
          let here = rw (c.loop-to.invariant.same t) at (c.in_ok-floor.ensures.floor t) in
          floor_lower _ _ c.loop-to.to c.args.at c.in_ok-floor.floor here c.if-floor-from.false (c.loop-to.invariant.none t);
      below = omega (arith, c.loop-to.invariant.below, c.saturating_sub-from.ensures);
      same = λ t. c.in_ok-floor.ensures.same t ∙ c.loop-to.invariant.same t;
      later = omega (arith, c.loop-to.invariant.later, c.in_ok-floor.ensures.count.later);
    }

pub returns-clause-floor : goal.returns-clause-floor
returns-clause-floor g c = λ t.
    let zero : c.loop-to.to ≡ 0 = omega (arith, c.loop-to-test.false) in
    floor_none _ c.args.at (rw zero at (c.loop-to.invariant.none t))
