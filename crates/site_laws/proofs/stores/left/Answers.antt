use Rattle.site_laws.proofs.Running.{left_is_held}
use Rattle.site_laws.proofs.stores.left.Goals as goal

pub returns : goal.returns
returns g c = λ h s. left_is_held h (g.S.Store.image s)
