use Rattle.site_laws.proofs.LongerLogs.{longer_sound}
use Rattle.site_laws.proofs.stores.longer.Goals as goal

pub returns : goal.returns
returns g c = λ s. longer_sound c.whole_stores.ensures.longer (g.S.Store.image s)
