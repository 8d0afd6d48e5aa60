use Rattle.std.proofs.Common.{subst, arith}
use Rattle.site_store.proofs.Words.{Retry, IsFloorOf, IsStart}
use Rattle.site_store.proofs.Boundaries.{start_floor, start_fits, start_some}
use Rattle.site_store.proofs.Telling.{floor_misfit, first_alone}
use Rattle.site_store.proofs.places.check.misplaced_position.Goals.{else-floor-position-via-then-floor-position+else-end-gt0, else-floor-position-via-else-floor-position}
use Rattle.site_store.proofs.places.check.misplaced_position.Goals as goal

pub returns-then-end-gt0-clause-told : goal.returns-then-end-gt0-clause-told
returns-then-end-gt0-clause-told g c = λ t ls h end_is.
    let feed = rw (c.min.ensures, c.saturating_sub.ensures) at (c.in_ok-floor.ensures.floor t) in
    let floor = start_floor _ ls h c.args.end end_is c.args.position c.in_ok-floor.floor feed in
    (start_fits _ ls h c.args.end end_is c.args.position (subst (λ k. IsFloorOf (IsStart ls) c.args.position k) c.if-floor-position.true floor) c.if-end-gt0.true, tt)

pub returns-clause-told : goal.returns-clause-told
returns-clause-told g c = λ t ls h end_is.
    let feed = rw (c.min.ensures, c.saturating_sub.ensures) at (c.in_ok-floor.ensures.floor t) in
    let floor = start_floor _ ls h c.args.end end_is c.args.position c.in_ok-floor.floor feed in
    first_alone ls (Retry c.args.site) c.args.position c.in_ok-floor.floor
    (λ start. elim c.else-floor-position.branch [
      | else-floor-position-via-then-floor-position+else-end-gt0 w ↦ (let some = start_some _ ls h c.args.end end_is c.args.position start in let none = w.if-end-gt0 in absurd (omega arith))
      | else-floor-position-via-else-floor-position w ↦ floor_misfit (IsStart ls) c.args.position c.in_ok-floor.floor floor w.if-floor-position.false start
    ])
    floor
