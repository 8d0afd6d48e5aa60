use Rattle.bulk_logs.proofs.Valid.{queries_hold, clicks_hold}
use Rattle.bulk_logs.proofs.laws.valid_logs.Goals as goal

pub returns-clause-queries : goal.returns-clause-queries
returns-clause-queries c = queries_hold

pub returns-clause-clicks : goal.returns-clause-clicks
returns-clause-clicks c = clicks_hold
