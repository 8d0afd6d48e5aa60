use Rattle.std.proofs.Common.{refl}
use Rattle.std.specs.Fmt.{digits}
use Rattle.event_id.specs.EventId.{spell, dotted}
use Rattle.log_records.proofs.rows.places.Goals as goal

pub returns-clause-first : goal.returns-clause-first
unfolding spell dotted digits
returns-clause-first c = refl

pub returns-clause-second : goal.returns-clause-second
unfolding spell dotted digits
returns-clause-second c = refl

pub returns-clause-none : goal.returns-clause-none
unfolding spell dotted digits
returns-clause-none c = refl
