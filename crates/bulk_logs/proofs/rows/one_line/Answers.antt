use Rattle.std.proofs.Common.{refl}
use Rattle.std.specs.Fmt.{digits}
use Rattle.event_id.specs.EventId.{spell, dotted}
use Rattle.bulk_logs.proofs.rows.one_line.Goals as goal

pub returns-clause-query : goal.returns-clause-query
unfolding spell dotted digits
returns-clause-query c = refl

pub returns-clause-click : goal.returns-clause-click
unfolding spell dotted digits
returns-clause-click c = refl
