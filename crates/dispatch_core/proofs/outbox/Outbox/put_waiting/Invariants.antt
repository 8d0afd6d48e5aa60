use Rattle.dispatch_core.proofs.Words.{deque_iter_rest, Puts, waiting_joins, Outbox}
use Rattle.dispatch_core.proofs.outbox.Outbox.put_waiting.Given as goal

-- what comes of the Joins that are left comes of all
abbrev pub invariant-loop-line : goal.invariant-loop-line
invariant-loop-line l = (last : Outbox) → Puts l.self last (waiting_joins (deque_iter_rest l.line-iterator)) → Puts l.initial.self last (waiting_joins l.fresh.items)
