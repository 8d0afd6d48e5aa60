use Rattle.photon_model.proofs.Joined.{click_is_joined}
use Rattle.photon_model.proofs.Refusing.{runs_are_strict, stores_are_strict}
use Rattle.photon_model.proofs.examples.Goals as goal

pub returns-clause-joined : goal.returns-clause-joined
returns-clause-joined c = click_is_joined

pub returns-clause-runs : goal.returns-clause-runs
returns-clause-runs c = runs_are_strict

pub returns-clause-stores : goal.returns-clause-stores
returns-clause-stores c = stores_are_strict
