use Rattle.air_bus.proofs.Words.{is_dead}
use Rattle.air_bus.proofs.LeavingOut.{AreDeadBelow}
use Rattle.air_bus.proofs.links.Links.left_out.Given as goal

abbrev pub invariant-loop-node : goal.invariant-loop-node
invariant-loop-node l = AreDeadBelow (is_dead l.self.plan.dead l.self.kinds.items) l.node l.numbers.items
