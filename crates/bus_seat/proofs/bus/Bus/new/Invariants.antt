use Rattle.std.proofs.Common.{◌≡◌, ◌<◌, [], vec_capacity, vec_len}
use Rattle.bus_seat.proofs.Words.{count, fresh_to, runner_at}
use Rattle.bus_seat.proofs.bus.Bus.new.Given as goal

abbrev pub invariant-loop-node : goal.invariant-loop-node
invariant-loop-node l = (l.bus ≡ l.initial.bus) × (l.place.table_id ≡ l.bus.table) × (l.place.me ≡ (runner_at l.bus.base l.node, [])) × (l.seats.items ≡ fresh_to l.bus l.node) × (vec_len l.seats ≡ l.node) × (count l.bus.base < vec_capacity l.seats)
