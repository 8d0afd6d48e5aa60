-- A seat may go to another thread.
use denote.Param.Send.{IsSend, sendable}
use Rattle.std.proofs.Crossing.{crosses}
use Rattle.atomic_table.proofs.shared.Seat.TheSendSync as table
use Rattle.air_bus.proofs.Crossing.{air_send}
use Rattle.bus_seat.specs.contracts.seat.Seat as seat

pub seat_send : IsSend seat.the_row
seat_send = search (sendable, crosses, table.the_send, air_send) depth 20
