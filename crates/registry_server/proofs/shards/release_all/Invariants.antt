use Rattle.registry_server.proofs.Placing.{Released}
use Rattle.registry_server.proofs.shards.release_all.Given as goal

-- those before the index hold back no more
abbrev pub invariant-loop-shard : goal.invariant-loop-shard
invariant-loop-shard l = Released l.fn.shards.items l.shard-items l.shard-index
