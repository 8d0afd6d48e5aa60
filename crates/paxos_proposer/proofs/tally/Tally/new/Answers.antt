use Rattle.paxos_proposer.proofs.Tallies.{nobody_yet}
use Rattle.paxos_proposer.proofs.tally.Tally.new.Goals as goal

pub returns : goal.returns
returns c = nobody_yet c.args.replicas c.requires
