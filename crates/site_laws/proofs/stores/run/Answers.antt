use Rattle.site_laws.proofs.Running.{run_sound}
use Rattle.site_laws.proofs.stores.run.Goals as goal

pub returns : goal.returns
returns g c = λ h s. run_sound c.left_on_disks.ensures.whole h (g.S.Store.image s)
