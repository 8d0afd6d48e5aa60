use Rattle.paxos_defs.proofs.Agreement.{agreed_one}
use Rattle.paxos_defs.proofs.laws.one_value_is_chosen.Goals as goal

pub returns : goal.returns
returns g c = λ journals agree. agreed_one journals agree
