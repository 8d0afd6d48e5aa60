use Rattle.std.proofs.Common.{◌≡◌, take, vec_len}
use Rattle.bus_seat.proofs.Words.{vec_capacity}
use Rattle.bus_seat.proofs.bus.seen_of.Given as goal

abbrev pub invariant-loop-seat : goal.invariant-loop-seat
invariant-loop-seat l = (l.lists.items ≡ take l.seat-index l.seats) × (vec_len l.lists ≡ l.seat-index) × (vec_capacity l.lists ≡ vec_capacity l.initial.lists)
