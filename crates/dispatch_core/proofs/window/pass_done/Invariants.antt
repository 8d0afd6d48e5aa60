use Rattle.std.proofs.Common.{◌≡◌, map}
use Rattle.dispatch_core.proofs.Words.{deque_len, after_done, fresh_of}
use Rattle.dispatch_core.proofs.window.pass_done.Given as goal

abbrev pub invariant-leaving : goal.invariant-leaving
invariant-leaving l = after_done (map fresh_of l.fresh.items) ≡ after_done (map fresh_of l.initial.fresh.items)

abbrev pub decreases-leaving : goal.decreases-leaving
decreases-leaving l = deque_len l.fresh
