use Rattle.air_bus.proofs.Words.{taken_by}
use Rattle.air_bus.proofs.Sending.{turn_at}
use Rattle.air_bus.proofs.nodes.leave.Goals as goal

pub returns-clause-taken : goal.returns-clause-taken
returns-clause-taken c = turn_at c.args.inboxes.now.items c.args.at c.index_mut-inbox.result.now c.leave.new.self (taken_by c.args.input.now) c.requires c.index_mut-inbox.ensures.value c.leave.ensures.taken
