use Rattle.paxos_world.proofs.Words.{agreed_one, decided_is, chosen_begin}
use Rattle.paxos_world.proofs.Learners.{after_run, learned_chosen}
use Rattle.paxos_world.proofs.Replicas.{decided_kept}
use Rattle.paxos_world.proofs.servers.learning.Goals as goal

pub returns-clause-agree : goal.returns-clause-agree
returns-clause-agree g c same journals epochs events agree kept = (after_run same journals epochs events agree kept).agree

pub returns-clause-decided : goal.returns-clause-decided
returns-clause-decided g c same journals epochs events agree kept = decided_kept _ (after_run same journals epochs events agree kept) agree

pub returns-clause-learned : goal.returns-clause-learned
returns-clause-learned g c test journals epochs events agree kept same shard s exact =
    let holds = after_run test journals epochs events agree kept in
    let one = agreed_one _ holds.agree in
    chosen_begin _ shard _ _ one (decided_is same exact _ one shard) (learned_chosen _ _ s _ _ shard (holds.rest s).live)
