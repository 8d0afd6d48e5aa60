use Rattle.std.proofs.Common.{◌≡◌, map}
use Rattle.dispatch_core.proofs.Words.{deque_iter_rest, some_waits, fresh_of}
use Rattle.dispatch_core.proofs.window.has_waiting.Given as goal

abbrev pub invariant-loop-line : goal.invariant-loop-line
invariant-loop-line l = some_waits (map fresh_of (deque_iter_rest l.line-iterator)) ≡ some_waits (map fresh_of l.fresh.items)
