use Rattle.dispatch_core.proofs.Words.{zip, iter_rest, Puts, Outbox}
use Rattle.dispatch_core.proofs.outbox.Outbox.put_trying.Given as goal

-- what comes of the Joins that are left comes of all
abbrev pub invariant-loop-position : goal.invariant-loop-position
invariant-loop-position l = (last : Outbox) → Puts l.self last (zip (iter_rest l.position-iterator.a) (iter_rest l.position-iterator.b)) → Puts l.initial.self last (zip l.positions l.clicks)
