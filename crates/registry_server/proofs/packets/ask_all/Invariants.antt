use Rattle.std.proofs.Common.{◌≡◌, ◌++◌, ◌-◌}
use Rattle.registry_server.proofs.Words.{to_from, to_replicas, sent, request}
use Rattle.registry_server.proofs.packets.ask_all.Given as goal

-- those asked so far, and those that are left
abbrev pub invariant-loop-replica : goal.invariant-loop-replica
invariant-loop-replica l = sent l.packets.items ++ to_from l.replica (l.station.config.replicas - l.replica) (request l.place l.ballot l.value) ≡ sent l.initial.packets.items ++ to_replicas l.station.config.replicas (request l.place l.ballot l.value)
