use Rattle.paxos_defs.proofs.Agreement.{agreed_one}
use Rattle.paxos_defs.proofs.Decided.{decided_is}
use Rattle.paxos_defs.proofs.Facts.{decided_begins}
use Rattle.paxos_defs.proofs.laws.decided_list.Goals as goal

pub returns-clause-is : goal.returns-clause-is
returns-clause-is g c = λ same journals shard exact agree. decided_is same exact journals (agreed_one journals agree) shard

pub returns-clause-grows : goal.returns-clause-grows
returns-clause-grows g c = λ same old new shard exact agree agree' members grows. decided_begins same exact old new agree agree' members grows shard
