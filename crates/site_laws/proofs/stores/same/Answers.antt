use Rattle.site_laws.proofs.Nodes.{same_is_sound, same_is_whole}
use Rattle.site_laws.proofs.stores.same.Goals as goal

pub returns-clause-records : goal.returns-clause-records
returns-clause-records c = same_is_sound

pub returns-clause-store : goal.returns-clause-store
returns-clause-store c = same_is_whole
