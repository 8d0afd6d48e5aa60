use Rattle.std.proofs.Common.{refl}
use Rattle.batch_queue.proofs.worked_rows.Goals as goal

pub returns-clause-last : goal.returns-clause-last
returns-clause-last c = (refl, refl)

pub returns-clause-answered : goal.returns-clause-answered
returns-clause-answered c = refl

pub returns-clause-left : goal.returns-clause-left
returns-clause-left c = refl
