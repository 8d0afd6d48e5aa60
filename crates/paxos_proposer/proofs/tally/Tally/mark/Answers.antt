use Rattle.paxos_proposer.proofs.Tallies.{marked_now}
use Rattle.paxos_proposer.proofs.tally.Tally.mark.Goals as goal

pub returns : goal.returns
returns c = marked_now c.self.inside.replicas c.self.inside.heard c.args.self.now c.args.from c.self.view_is c.requires
