use Rattle.std.proofs.Common.{ap, ◌∙◌}
use Rattle.site_store.proofs.Lending.{given_first}
use Rattle.site_store.proofs.Planned.{none_added}
use Rattle.site_store.proofs.disks.all.give_back.Goals as goal

pub returns-clause-left : goal.returns-clause-left
returns-clause-left g c tells = given_first _ _ _ _ _ _ (c.give_each.ensures.left tells) (rw c.into_disk.ensures at (c.give.ensures.images tells)) (c.give.ensures.others tells)

pub returns-clause-calm : goal.returns-clause-calm
returns-clause-calm g c none = none_added _ _ _ c.give.ensures.count (ap g.S.Disk.Disk.faults c.into_disk.ensures ∙ none.0) ∙ c.give_each.ensures.calm none.1
