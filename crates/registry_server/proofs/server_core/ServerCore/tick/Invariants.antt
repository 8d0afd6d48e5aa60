use Rattle.std.proofs.Common.{◌≡◌, ◌-◌, ◌++◌}
use Rattle.registry_server.proofs.Words.{Setting, shards, ServerKept, ServerLive, all_again, sent, Stands}
use Rattle.registry_server.proofs.server_core.ServerCore.tick.Given as goal

-- the packets so far, and those of the shards that are left
abbrev pub invariant-loop-number : goal.invariant-loop-number
invariant-loop-number l = (g : Setting) (k : ServerKept) (v : ServerLive) → Stands l.self g k v
    → sent l.packets.items ++ all_again g l.self.station.site k v l.number (l.number-end - l.number) ≡ all_again g l.self.station.site k v 0 (shards g)
