use Rattle.turn_defs.proofs.ShardsBelow.{shard_below}
use Rattle.turn_defs.proofs.laws.shards_below.Goals as goal

pub returns : goal.returns
returns c = shard_below
