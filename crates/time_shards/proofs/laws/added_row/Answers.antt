use Rattle.std.proofs.Common.{ℕ, ◌+◌, ◌%◌, ap}
use Rattle.time_shards.proofs.Tables.{count_before}
use Rattle.time_shards.proofs.laws.added_row.Goals as goal

pub returns : goal.returns
returns c table row id lt = ap (λ (n : ℕ). (id.ip + id.pid + id.micros) % n) (count_before table row 1 id.micros lt)
