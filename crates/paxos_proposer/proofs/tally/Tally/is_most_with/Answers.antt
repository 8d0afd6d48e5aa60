use Rattle.std.proofs.Common.{arith, ◌∙◌}
use Rattle.std.proofs.lemmas.Bool.{ltb_from_iff}
use Rattle.paxos_proposer.proofs.Tallies.{most_now}
use Rattle.paxos_proposer.proofs.tally.Tally.is_most_with.Goals as goal

pub returns : goal.returns
returns c =
    ltb_from_iff c.is_majority.ensures
    ∙ most_now c.self.inside.replicas c.self.inside.heard c.args.self.now c.args.from c.count_marked-count.result (omega arith) c.self.invariant c.self.view_is c.requires c.count_marked-count.ensures.counted
