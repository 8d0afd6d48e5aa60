-- A node that wants nothing does nothing by itself.
use Rattle.std.proofs.Common.{arith}
use Rattle.photon_model.specs.Wanting.{OwnIsWanted}

pub own_is_wanted : OwnIsWanted
own_is_wanted = grind arith
