use Rattle.site_laws.proofs.Keeping.{hold_same_records}
use Rattle.site_laws.proofs.stores.once.Goals as goal

pub returns-clause-records : goal.returns-clause-records
returns-clause-records c = hold_same_records (record { notes = c.told_apart-2.ensures; pairs = c.told_apart.ensures })
