use Rattle.std.proofs.Common.{◌≡◌, ℕ, ◌<◌, get_or, false}
use Rattle.air_bus.proofs.Words.{Down, Idle, is_dead}
use Rattle.air_bus.proofs.nodes.all_idle.Given as goal

abbrev pub invariant-loop-i : goal.invariant-loop-i
invariant-loop-i l = (n : ℕ) → n < l.i → is_dead l.links.plan.dead l.links.kinds.items n ≡ false → get_or l.phases n Down ≡ Idle
