use Rattle.progress_laws.proofs.Concluding.{rests_or_refused, left_refused, held_again}
use Rattle.progress_laws.proofs.Moving.{moves_on, moves_on_by}
use Rattle.progress_laws.proofs.progress.Goals as goal

pub returns-clause-moves_on : goal.returns-clause-moves_on
returns-clause-moves_on c g d es ok sound run = moves_on g d (λ h r. held_again g d h (c.every_run.ensures.facts g d h ok sound r)) es run (rests_or_refused g d es (c.every_run.ensures.facts g d es ok sound run))

pub returns-clause-by_replicas : goal.returns-clause-by_replicas
returns-clause-by_replicas c g d es ok sound run = moves_on_by g _ (moves_on g d (λ h r. held_again g d h (c.every_run.ensures.facts g d h ok sound r)) es run (rests_or_refused g d es (c.every_run.ensures.facts g d es ok sound run)))

pub returns-clause-first : goal.returns-clause-first
returns-clause-first c g d es ok sound run = rests_or_refused g d es (c.every_run.ensures.facts g d es ok sound run)

pub returns-clause-each : goal.returns-clause-each
returns-clause-each c g d es ok sound run = left_refused g d es (c.every_run.ensures.facts g d es ok sound run)

pub returns-clause-second : goal.returns-clause-second
returns-clause-second c g d es ok sound run = held_again g d es (c.every_run.ensures.facts g d es ok sound run)
