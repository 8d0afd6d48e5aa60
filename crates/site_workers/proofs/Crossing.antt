-- A worker may go to another thread where its node may.
use denote.RattleType.{RattleType}
use denote.Param.Send.{IsSend, sendable}
use Rattle.std.proofs.Crossing.{crosses}
use Rattle.site_workers.proofs.Words.{Ghosts}
use Rattle.bus_seat.proofs.Crossing.{seat_send}
use Rattle.site_node.proofs.kind.NodeFault.TheSendSync as fault
use Rattle.site_workers.specs.contracts.worker.Worker as worker

pub worker_send : (N : RattleType) (g : Ghosts N.Denot) → IsSend N → IsSend (worker.the_row N g)
worker_send N g node = search (sendable, crosses, seat_send, fault.the_send) depth 20
