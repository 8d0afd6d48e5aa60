use Rattle.photon_model.proofs.Local.{local_is_own}
use Rattle.photon_model.proofs.laws.local_states.Goals as goal

pub returns : goal.returns
returns c = local_is_own
