use Rattle.log_records.proofs.Reading.{queries_same, clicks_same}
use Rattle.log_records.proofs.laws.one_reading.Goals as goal

pub returns-clause-queries : goal.returns-clause-queries
returns-clause-queries c = queries_same

pub returns-clause-clicks : goal.returns-clause-clicks
returns-clause-clicks c = clicks_same
