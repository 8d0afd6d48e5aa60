use Rattle.std.proofs.Common.{refl}
use Rattle.registry_state.proofs.worked_rows.Goals as goal

pub returns-clause-contest : goal.returns-clause-contest
returns-clause-contest c = refl

pub returns-clause-replay : goal.returns-clause-replay
returns-clause-replay c = (refl, refl)

pub returns-clause-bound : goal.returns-clause-bound
returns-clause-bound c = refl

pub returns-clause-dropped : goal.returns-clause-dropped
returns-clause-dropped c = (refl, refl)
