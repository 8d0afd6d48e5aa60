use Rattle.time_shards.proofs.Texts.{none_bad, one_bad}
use Rattle.time_shards.proofs.laws.one_first_bad.Goals as goal

pub returns-clause-none : goal.returns-clause-none
returns-clause-none c = none_bad

pub returns-clause-one : goal.returns-clause-one
returns-clause-one c = one_bad
