use Rattle.std.proofs.Common.{◌≡◌, ℕ, ◌<◌, slice_index_or, None}
use Rattle.site_workers.proofs.Words.{WorkerView}
use Rattle.site_workers.proofs.rounds.has_fault.Given as goal

abbrev pub invariant-loop-worker : goal.invariant-loop-worker
invariant-loop-worker g l = (i : ℕ) (d : WorkerView g.row.N.Denot) → i < l.worker-index → (slice_index_or l.workers i d).fault ≡ None
