use Rattle.std.proofs.Common.{◌≡◌, ℕ, length, Some, slice_get}
use Rattle.verify_pass.proofs.Words.{TimedRegistry, slots, EndsBy, IsWhole}
use Rattle.verify_pass.proofs.states.registries.Given as goal

-- the shards so far have their registries
abbrev pub invariant-loop-shard : goal.invariant-loop-shard
invariant-loop-shard l = record {
  count : length l.registries.items ≡ l.shard;
  known : EndsBy l.chosen → (s : ℕ) (state : TimedRegistry) → slice_get l.registries.items s ≡ Some state → IsWhole (slots l.chosen s) state;
}
