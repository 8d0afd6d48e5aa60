use Rattle.std.proofs.Common.{◌≡◌, drop}
use Rattle.time_shards.specs.Shards.{count_at}
use Rattle.time_shards.proofs.table.Table.count_at.Given as goal

abbrev pub invariant-loop-row : goal.invariant-loop-row
invariant-loop-row l = count_at l.count (drop l.row-index l.row-items) l.micros ≡ count_at 1 l.row-items l.micros
