use Rattle.site_laws.proofs.Leaving.{left_whole}
use Rattle.site_laws.proofs.left_on_disks.Goals as goal

pub returns-clause-whole : goal.returns-clause-whole
returns-clause-whole c = left_whole c.one_spelling.ensures.one c.whole_stores.ensures.runs
