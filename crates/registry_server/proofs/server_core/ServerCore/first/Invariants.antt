use Rattle.std.proofs.Common.{◌≡◌, ◌-◌}
use Rattle.registry_server.proofs.Words.{Setting, shards, ServerKept, ServerLive, first_shard, passes, Stands}
use Rattle.registry_server.proofs.server_core.ServerCore.first.Given as goal

-- none before this number passes
abbrev pub invariant-loop-number : goal.invariant-loop-number
invariant-loop-number l = (g : Setting) (k : ServerKept) (v : ServerLive) → Stands l.self g k v
    → first_shard (λ s. passes g l.test (v.shards s)) l.number (l.number-end - l.number) ≡ first_shard (λ s. passes g l.test (v.shards s)) 0 (shards g)
