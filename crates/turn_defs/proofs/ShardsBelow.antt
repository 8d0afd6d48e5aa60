-- Each id's shard lies below the table's greatest count.
use Rattle.std.proofs.Common.{◌<◌, arith}
use Rattle.event_id.specs.declared.id.EventId.{EventId}
use Rattle.time_shards.specs.Shards.{IsTable}
use Rattle.turn_defs.specs.Setting.{Setting, shard, shards}

pub shard_below : (g : Setting) (id : EventId) → IsTable g.config.table → shard g id < shards g
shard_below g id t = grind arith
