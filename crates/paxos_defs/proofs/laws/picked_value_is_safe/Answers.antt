use Rattle.paxos_defs.proofs.Agreement.{picked_safe}
use Rattle.paxos_defs.proofs.laws.picked_value_is_safe.Goals as goal

pub returns : goal.returns
returns g c = λ n votes b own best agree was promises. picked_safe agree b own best was promises
