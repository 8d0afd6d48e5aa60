use Rattle.turn_defs.proofs.WorkedLogs.{worked_over}
use Rattle.turn_defs.proofs.laws.worked_logs.Goals as goal

pub returns : goal.returns
returns c = worked_over
