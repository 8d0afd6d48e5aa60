use Rattle.paxos_defs.proofs.Agreement.{promised_kept, safe_kept, chosen_kept}
use Rattle.paxos_defs.proofs.laws.facts_stay.Goals as goal

pub returns-clause-promise : goal.returns-clause-promise
returns-clause-promise g c = λ old new r b prior grows h. promised_kept grows r b prior h

pub returns-clause-safe : goal.returns-clause-safe
returns-clause-safe g c = λ n old new b v grows h. safe_kept grows b v h

pub returns-clause-chosen : goal.returns-clause-chosen
returns-clause-chosen g c = λ n old new b v grows h. chosen_kept grows b v h
