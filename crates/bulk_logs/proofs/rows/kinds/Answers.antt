use Rattle.std.proofs.Common.{refl}
use Rattle.std.specs.Fmt.{digits}
use Rattle.bulk_logs.proofs.rows.kinds.Goals as goal

pub returns-clause-totals : goal.returns-clause-totals
unfolding digits
returns-clause-totals c = refl
