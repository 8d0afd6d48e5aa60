use Rattle.site_laws.proofs.Resting.{states_rest, states_are_quiet}
use Rattle.site_laws.proofs.rest_of_states.Goals as goal

pub returns-clause-rest : goal.returns-clause-rest
returns-clause-rest c = states_rest

pub returns-clause-quiet : goal.returns-clause-quiet
returns-clause-quiet c = states_are_quiet
