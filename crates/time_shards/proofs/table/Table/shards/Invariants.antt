use Rattle.std.proofs.Common.{◌≡◌, max, drop}
use Rattle.time_shards.specs.Shards.{shard_count}
use Rattle.time_shards.proofs.table.Table.shards.Given as goal

abbrev pub invariant-loop-row : goal.invariant-loop-row
invariant-loop-row l = max l.most (shard_count (drop l.row-index l.row-items)) ≡ shard_count l.row-items
