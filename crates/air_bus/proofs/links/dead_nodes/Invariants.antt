use Rattle.std.proofs.Common.{◌≡◌, ℕ, ◌<◌, length, get_or, take, false}
use Rattle.std.specs.Prelude.{count_by}
use Rattle.air_bus.proofs.Words.{is_dead, is_replica}
use Rattle.air_bus.proofs.links.dead_nodes.Given as goal

abbrev pub invariant-loop-kind : goal.invariant-loop-kind
invariant-loop-kind l = record {
  wide : length l.list.items ≡ l.kind-index;
  replicas : l.replicas ≡ count_by is_replica (take l.kind-index l.kinds);
  known : (n : ℕ) → n < l.kind-index → get_or l.list.items n false ≡ is_dead l.dead l.kinds n;
}
