use Rattle.std.proofs.Common.{◌≡◌, ◌+◌, ◌<◌, ◌≤◌, ◌++◌, map, length, vec_len}
use Rattle.site_workers.proofs.Words.{All, AreCaused, HasMet, WorkerView, vec_capacity}
use Rattle.site_workers.proofs.rounds.dismiss.Given as goal

abbrev pub invariant-loop-worker : goal.invariant-loop-worker
invariant-loop-worker g l =
    (l.seats.items ≡ map (λ (w : WorkerView g.row.N.Denot). w.seat) l.yielded)
    × (l.nodes.items ≡ map (λ (w : WorkerView g.row.N.Denot). (w.node, w.fault)) l.yielded)
    × (vec_len l.seats + length l.worker-iterator.rest.items < vec_capacity l.seats)
    × (vec_len l.nodes + length l.worker-iterator.rest.items ≤ vec_capacity l.nodes)
    × (vec_len l.seats ≡ length l.yielded)
    × (l.yielded ++ l.worker-iterator.rest.items ≡ l.fn.workers.items)
    × AreCaused g.N.SiteNode.disk_faults g.N.SiteNode.log_faults l.nodes.items
    × All (λ (w : WorkerView g.row.N.Denot). HasMet g.N.SiteNode.faults g.N.SiteNode.waits w.node w.fault w.seat.mine) l.yielded
