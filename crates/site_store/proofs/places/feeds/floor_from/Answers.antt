use Rattle.std.proofs.Common.{◌≡◌, ◌≤◌, ◌+◌, ◌∙◌, sym, subst, arith, List, ℕ, take, drop}
use Rattle.site_store.proofs.Words.{length-take, NoneBetween, IsFloorFrom, IsBehindFeed}
use Rattle.site_store.proofs.Stretches.{floor_stays, none_past, read_stands}
use Rattle.site_store.proofs.places.feeds.floor_from.Goals as goal

pub returns-then-n-eq0-clause-floor : goal.returns-then-n-eq0-clause-floor
returns-then-n-eq0-clause-floor g c = λ t.
    let past = (c.in_ok-n.ensures.end t (omega (arith, length-take c.min-room.result c.loop-at.block))).0 c.if-n-eq0.true in
    let none = subst (λ (log : List ℕ). NoneBetween (IsBehindFeed log) c.loop-at.at c.args.to) (c.loop-at.invariant.same t) (none_past _ c.loop-at.at c.args.to past) in
    floor_stays _ c.args.from c.loop-at.at c.args.to c.loop-at.floor (c.loop-at.invariant.floor t) c.loop-at.invariant.high none

pub loop-at-preserved : goal.loop-at-preserved
loop-at-preserved g c =
    let n = c.in_ok-n.n in
    let log = g.L.LogFile.bytes c.args.log.now in
    record {
      floor = λ t.
          let same = subst (λ (bytes : List ℕ). take n c.read_at.new.buf ≡ take n (drop c.loop-at.at bytes)) (c.loop-at.invariant.same t) (c.in_ok-n.ensures.bytes t).1 in
          let stands = read_stands log c.read_at.new.buf (drop c.min-room.result c.loop-at.block) c.loop-at.at n (omega (arith, c.in_ok-n.ensures.fits, c.read_at.auto.buf)) same in
          subst (λ k. IsFloorFrom (IsBehindFeed log) c.args.from (c.loop-at.at + k) c.floor_behind-floor.result) stands.0 (c.floor_behind-floor.ensures log c.args.from stands.1 (c.loop-at.invariant.floor t));
      low = omega (arith, c.loop-at.invariant.low);
      high = omega (arith, c.in_ok-n.ensures.fits, c.min-room.ensures, length-take c.min-room.result c.loop-at.block, c.loop-at-test.true);
      same = λ t. c.in_ok-n.ensures.same t ∙ c.loop-at.invariant.same t;
      later = subst (λ k. g.L.LogFile.faults c.args.log.now ≤ k) (sym c.in_ok-n.ensures.tally) c.loop-at.invariant.later;
    }
