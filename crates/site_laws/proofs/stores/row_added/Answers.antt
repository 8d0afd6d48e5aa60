use Rattle.site_laws.proofs.AddedRows.{row_sound}
use Rattle.site_laws.proofs.stores.row_added.Goals as goal

pub returns : goal.returns
returns g c = λ h before after. row_sound c.once.ensures.records c.same.ensures.store c.added_rows.ensures.whole h (g.S.Store.image before) (g.S.Store.image after)
