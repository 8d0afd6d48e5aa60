use Rattle.std.proofs.Common.{◌≡◌}
use Rattle.bus_seat.proofs.Words.{Looks}
use Rattle.bus_seat.proofs.bus.Bus.begin.Given as goal

abbrev pub invariant-loop : goal.invariant-loop
invariant-loop g l = (l.seat.bus ≡ l.initial.seat.bus) × (l.seat.number ≡ l.initial.seat.number) × Looks l.initial.seat l.seat
