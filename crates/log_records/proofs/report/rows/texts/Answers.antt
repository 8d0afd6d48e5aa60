use Rattle.std.proofs.Common.{refl}
use Rattle.std.specs.Fmt.{digits}
use Rattle.event_id.specs.EventId.{spell, dotted}
use Rattle.log_records.proofs.report.rows.texts.Goals as goal

pub returns-clause-none : goal.returns-clause-none
unfolding digits
returns-clause-none c = refl

pub returns-clause-joined : goal.returns-clause-joined
unfolding spell dotted digits
returns-clause-joined c = refl

pub returns-clause-missing : goal.returns-clause-missing
unfolding spell dotted digits
returns-clause-missing c = refl

pub returns-clause-expired : goal.returns-clause-expired
unfolding spell dotted digits
returns-clause-expired c = refl

pub returns-clause-unmatched : goal.returns-clause-unmatched
unfolding spell dotted digits
returns-clause-unmatched c = refl
