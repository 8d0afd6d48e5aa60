use Rattle.std.proofs.Common.{arith}
use Rattle.paxos_world.proofs.servers.example.Goals as goal

pub returns : goal.returns
returns g c same v s is = grind arith
