use Rattle.std.proofs.Common.{◌≡◌, map}
use Rattle.dispatch_core.proofs.Words.{deque_iter_rest, done_end, fresh_of}
use Rattle.dispatch_core.proofs.window.end_of_done.Given as goal

abbrev pub invariant-loop-line : goal.invariant-loop-line
invariant-loop-line l = done_end l.end (map fresh_of (deque_iter_rest l.line-iterator)) ≡ done_end l.from (map fresh_of l.fresh.items)
