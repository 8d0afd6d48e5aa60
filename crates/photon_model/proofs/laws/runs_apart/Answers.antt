use Rattle.photon_model.proofs.Own.{apart_is_run}
use Rattle.photon_model.proofs.laws.runs_apart.Goals as goal

pub returns : goal.returns
returns c = apart_is_run
