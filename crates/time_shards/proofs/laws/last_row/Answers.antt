use Rattle.time_shards.proofs.Tables.{count_of_last}
use Rattle.time_shards.proofs.laws.last_row.Goals as goal

pub returns : goal.returns
returns c earlier later row micros t le above = count_of_last earlier later row 1 micros t.begins.rising le above
