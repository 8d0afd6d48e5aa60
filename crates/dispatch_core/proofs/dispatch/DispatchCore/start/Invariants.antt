use Rattle.std.proofs.Common.{◌≡◌, ℕ, nat_eq, take}
use Rattle.dispatch_core.proofs.Words.{has, contains}
use Rattle.dispatch_core.proofs.dispatch.DispatchCore.start.Given as goal

abbrev pub invariant-loop-position : goal.invariant-loop-position
invariant-loop-position l = (p : ℕ) → contains nat_eq l.kept p ≡ has (take l.position-index l.position-items) p
