use Rattle.std.proofs.Common.{◌≡◌, length}
use Rattle.registry_server.proofs.Words.{empty_shard, EachStands}
use Rattle.registry_server.proofs.shards.empty_shards.Given as goal

abbrev pub invariant-loop : goal.invariant-loop
invariant-loop l = record {
  many : length l.shards.items ≡ l.counter;
  each : EachStands l.shards.items (λ s. empty_shard);
}
