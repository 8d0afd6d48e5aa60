use Rattle.site_store.proofs.Lending.{given_first}
use Rattle.site_store.proofs.disks.bare.give_bare.Goals as goal

pub returns-clause-left : goal.returns-clause-left
returns-clause-left g c tells = given_first _ _ _ _ _ _ (c.give_all.ensures.left tells) (rw c.into_disk.ensures at (c.give.ensures.images tells)) (c.give.ensures.others tells)
