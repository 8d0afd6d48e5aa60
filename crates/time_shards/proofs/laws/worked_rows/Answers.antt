use Rattle.std.proofs.Common.{refl}
use Rattle.std.specs.Fmt.{digits}
use Rattle.time_shards.specs.Text.{row_text}
use Rattle.time_shards.proofs.laws.worked_rows.Goals as goal

pub returns-clause-text : goal.returns-clause-text
unfolding row_text digits
returns-clause-text c = refl
