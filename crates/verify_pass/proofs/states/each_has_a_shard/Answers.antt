use Rattle.verify_pass.proofs.Shards.{shard_below}
use Rattle.verify_pass.proofs.states.each_has_a_shard.Goals as goal

pub returns : goal.returns
returns c = λ i. shard_below c.args.table.now i c.rows.ensures.table
