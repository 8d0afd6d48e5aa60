-- The shard of an id is one of its table's; who is held was inserted.
use Rattle.std.proofs.Common.{◌≡◌, ◌<◌, List, true, is_some, arith}
use Rattle.verify_pass.proofs.Words.{EventId, Batch, holder, first_insert, ShardRow, IsTable, shard_of, shard_count}

pub shard_below : (table : List ShardRow) (i : EventId) → IsTable table → shard_of table i < shard_count table
shard_below table i h = grind arith

pub held_inserted : (vs : List Batch) (i : EventId) → is_some (holder vs i) ≡ true → is_some (first_insert vs i) ≡ true
held_inserted vs i h = grind arith
