use Rattle.air_bus.proofs.Words.{heap_len, HoldsOn}
use Rattle.air_bus.proofs.queue.Queue.settle.Given as goal

abbrev pub invariant-loop : goal.invariant-loop
invariant-loop l = HoldsOn l.initial.self l.self

abbrev pub decreases-loop : goal.decreases-loop
decreases-loop l = heap_len l.self.late
