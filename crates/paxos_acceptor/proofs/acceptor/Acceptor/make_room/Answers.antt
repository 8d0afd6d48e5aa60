use Rattle.std.proofs.Common.{ap}
use Rattle.paxos_acceptor.specs.Cells.{cell_of_known}
use Rattle.paxos_acceptor.proofs.acceptor.Acceptor.make_room.Goals as goal

pub returns-clause-same : goal.returns-clause-same
returns-clause-same c p = ap cell_of_known (c.reserve.ensures.entries.2 p)
