use Rattle.std.proofs.Common.{None, Some, ◌∙◌, sym, subst, arith}
use Rattle.site_store.proofs.Words.{HoldsLines, places_at, IsTold}
use Rattle.site_store.proofs.Telling.{next_told, here_told, none_left, none_told}
use Rattle.site_store.proofs.places.check.first_misplaced.Goals as goal

pub returns-in-Some-clause-first : goal.returns-in-Some-clause-first
returns-in-Some-clause-first g c = λ t s is end_is.
    let inv = c.loop-disk.invariant in
    let d = c.disk-item.result in
    let lines = subst (λ log. HoldsLines log s.clicks) (sym (inv.same t)) is.lines in
    let one = subst (IsTold s.clicks (places_at d.name d.kept)) c.in-Some.is (c.in_ok-misplaced.ensures.told t s.clicks lines end_is) in
    inv.told t s.clicks is.lines end_is (Some c.in-Some.misplaced) (here_told s.clicks c.args.disks.now c.loop-disk.disk-index d _ c.disk-item.is c.loop-disk-test.true c.in-Some.misplaced one)

pub returns-in-Some-clause-same : goal.returns-in-Some-clause-same
returns-in-Some-clause-same g c t = c.misplaced_on.ensures.same t ∙ c.loop-disk.invariant.same t

pub returns-in-Some-clause-count : goal.returns-in-Some-clause-count
returns-in-Some-clause-count g c = record { later = omega (arith, c.loop-disk.invariant.count, c.misplaced_on.ensures.count.later); rose = λ e. absurd (cc e) }

pub loop-disk-preserved : goal.loop-disk-preserved
loop-disk-preserved g c =
    let inv = c.loop-disk.invariant in
    let d = c.disk-item.result in
    record {
      told = λ t ls h end_is told rest. (
          let lines = subst (λ log. HoldsLines log ls) (sym (inv.same t)) h in
          let fit = none_told ls (places_at d.name d.kept) c.in_ok-misplaced.field-0 c.in_default.not-Some (c.in_ok-misplaced.ensures.told t ls lines end_is) in
          inv.told t ls h end_is told (next_told ls c.args.disks.now c.loop-disk.disk-index d _ c.disk-item.is c.loop-disk-test.true told fit rest)
          );
      same = λ t. c.misplaced_on.ensures.same t ∙ inv.same t;
      count = omega (arith, inv.count, c.misplaced_on.ensures.count.later);
    }

pub returns-clause-first : goal.returns-clause-first
returns-clause-first g c = λ t s is end_is.
    c.loop-disk.invariant.told t s.clicks is.lines end_is None (none_left s.clicks c.args.disks.now c.loop-disk.disk-index (omega (arith, c.loop-disk-test.false)))
