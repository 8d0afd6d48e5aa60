use Rattle.site_laws.proofs.Opening.{written_sound}
use Rattle.site_laws.proofs.stores.topology_first.Goals as goal

pub returns : goal.returns
returns g c = λ h before after. written_sound c.whole_stores.ensures.topology h (g.S.Store.image before) (g.S.Store.image after)
