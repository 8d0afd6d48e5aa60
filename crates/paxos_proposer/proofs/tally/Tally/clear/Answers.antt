use Rattle.std.proofs.Common.{arith}
use Rattle.paxos_proposer.proofs.Tallies.{nobody_now}
use Rattle.paxos_proposer.proofs.tally.Tally.clear.Goals as goal

pub returns : goal.returns
returns c = nobody_now c.self.inside.replicas c.self.inside.heard c.args.self.now (omega arith) c.self.invariant c.self.view_is
