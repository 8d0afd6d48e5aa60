use Rattle.verify_pass.proofs.Starting.{none_before, before_none}
use Rattle.verify_pass.proofs.laws.free_starts.Goals as goal

pub returns : goal.returns
returns c vs start = (none_before vs start, before_none vs start)
