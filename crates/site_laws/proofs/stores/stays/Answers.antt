use Rattle.site_laws.proofs.Opening.{stays_sound}
use Rattle.site_laws.proofs.stores.stays.Goals as goal

pub returns : goal.returns
returns g c = λ h before after. stays_sound h (g.S.Store.image before) (g.S.Store.image after)
