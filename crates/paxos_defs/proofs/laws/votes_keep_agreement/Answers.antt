use Rattle.paxos_defs.proofs.Agreement.{promise_keeps, acceptance_keeps}
use Rattle.paxos_defs.proofs.laws.votes_keep_agreement.Goals as goal

pub returns-clause-promise : goal.returns-clause-promise
returns-clause-promise g c = λ n old new r b agree one. promise_keeps agree one

pub returns-clause-acceptance : goal.returns-clause-acceptance
returns-clause-acceptance g c = λ n old new r b v agree one safe only. acceptance_keeps agree one safe only
