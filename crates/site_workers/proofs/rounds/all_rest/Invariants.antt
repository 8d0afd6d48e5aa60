use Rattle.std.proofs.Common.{ℕ, ◌<◌, slice_index_or}
use Rattle.site_workers.proofs.Words.{Rests, TakesPart, WorkerView}
use Rattle.site_workers.proofs.rounds.all_rest.Given as goal

abbrev pub invariant-loop-worker : goal.invariant-loop-worker
invariant-loop-worker g l =
    let m = g.N.SiteNode in
    (i : ℕ) (d : WorkerView g.row.N.Denot) → i < l.worker-index → TakesPart (slice_index_or l.workers i d).seat → Rests m.number m.stands m.at_rest_as ((slice_index_or l.workers i d).node, (slice_index_or l.workers i d).fault) (slice_index_or l.workers i d).seat.mine
