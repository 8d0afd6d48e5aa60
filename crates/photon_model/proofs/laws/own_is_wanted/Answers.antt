use Rattle.photon_model.proofs.laws.own_is_wanted.Goals as goal
use Rattle.photon_model.proofs.Wanting.{own_is_wanted}

pub returns : goal.returns
returns c = own_is_wanted
