use Rattle.std.proofs.Common.{subst}
use Rattle.site_store.proofs.Words.{Offset, IsBoundary, IsFloorOf}
use Rattle.site_store.proofs.Boundaries.{boundary_floor, boundary_fits}
use Rattle.site_store.proofs.Telling.{floor_misfit, first_alone}
use Rattle.site_store.proofs.places.check.misplaced_offset.Goals as goal

pub returns-then-floor-offset-clause-told : goal.returns-then-floor-offset-clause-told
returns-then-floor-offset-clause-told g c = λ t ls h end_is.
    let feed = rw c.min.ensures at (c.in_ok-floor.ensures.floor t) in
    let floor = boundary_floor _ ls h c.args.end end_is c.args.offset c.in_ok-floor.floor feed in
    (boundary_fits _ ls h c.args.end end_is c.args.offset (subst (λ k. IsFloorOf (IsBoundary ls) c.args.offset k) c.if-floor-offset.true floor), tt)

pub returns-clause-told : goal.returns-clause-told
returns-clause-told g c = λ t ls h end_is.
    let feed = rw c.min.ensures at (c.in_ok-floor.ensures.floor t) in
    let floor = boundary_floor _ ls h c.args.end end_is c.args.offset c.in_ok-floor.floor feed in
    first_alone ls (Offset c.args.site) c.args.offset c.in_ok-floor.floor (floor_misfit (IsBoundary ls) c.args.offset c.in_ok-floor.floor floor c.if-floor-offset.false) floor
