use Rattle.site_laws.proofs.Opening.{opened_whole}
use Rattle.site_laws.proofs.stores.opened.Goals as goal

pub returns : goal.returns
returns g c = λ h s store sound left. opened_whole h (g.S.Store.image s) store sound left c.once.ensures.topology c.once.ensures.records c.same.ensures.store
