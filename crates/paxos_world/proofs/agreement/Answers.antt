use Rattle.paxos_world.proofs.Words.{agreed_one}
use Rattle.paxos_world.proofs.Proposers.{after_run, empty_agree}
use Rattle.paxos_world.proofs.Replicas.{decided_kept}
use Rattle.paxos_world.proofs.agreement.Goals as goal

pub returns-clause-begins : goal.returns-clause-begins
returns-clause-begins g c n = empty_agree n

pub returns-clause-agree : goal.returns-clause-agree
returns-clause-agree g c same journals events agree = (after_run same journals events agree).agree

pub returns-clause-one_chosen : goal.returns-clause-one_chosen
returns-clause-one_chosen g c same journals events agree = agreed_one _ (after_run same journals events agree).agree

pub returns-clause-kept : goal.returns-clause-kept
returns-clause-kept g c same journals events agree = (after_run same journals events agree).kept

pub returns-clause-learned : goal.returns-clause-learned
returns-clause-learned g c same journals events agree = (after_run same journals events agree).rest.learned

pub returns-clause-decided : goal.returns-clause-decided
returns-clause-decided g c same journals events agree = decided_kept _ (after_run same journals events agree) agree
