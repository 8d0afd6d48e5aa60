use Rattle.std.proofs.Common.{◌≡◌, ◌<◌, ℕ, length, get_or}
use Rattle.registry_server.proofs.Words.{IsShard, Shard, empty_shard}
use Rattle.registry_server.proofs.shards.clear_all.Given as goal

-- those below the number are empty
abbrev pub invariant-loop-number : goal.invariant-loop-number
invariant-loop-number l = record {
  many : length l.shards.items ≡ length l.fn.shards.items;
  empty : (s : ℕ) (d : Shard) → s < l.number → IsShard (get_or l.shards.items s d) empty_shard;
}
