use Rattle.time_shards.proofs.Deciding.{table_so, table_is}
use Rattle.time_shards.proofs.laws.decided.Goals as goal

pub returns : goal.returns
returns c rows = (table_so rows, table_is rows)
