use Rattle.std.proofs.Common.{◌≡◌, ◌+◌, ◌≤◌, ◌++◌, map, length, None}
use Rattle.site_workers.proofs.Words.{All, WorkerView, vec_capacity}
use Rattle.site_workers.proofs.rounds.hire.Given as goal

abbrev pub invariant-loop-node : goal.invariant-loop-node
invariant-loop-node g l =
    (map (λ (w : WorkerView g.row.N.Denot). w.node) l.workers.items ≡ l.yielded)
    × (map (λ (w : WorkerView g.row.N.Denot). w.seat) l.workers.items ++ l.seats.rest.items ≡ l.fn.seats.items)
    × (All (λ (w : WorkerView g.row.N.Denot). w.fault ≡ None) l.workers.items)
    × (l.number ≡ length l.workers.items)
    × (length l.workers.items + length l.node-iterator.rest.items ≤ vec_capacity l.workers)
    × (l.yielded ++ l.node-iterator.rest.items ≡ l.fn.nodes.items)
