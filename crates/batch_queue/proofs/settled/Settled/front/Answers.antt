use Rattle.std.proofs.Common.{◌++◌, List, take, ap, ◌∙◌}
use Rattle.batch_queue.proofs.Words.{values_of, Insert, settled}
use Rattle.batch_queue.proofs.Numbered.{front_turn}
use Rattle.batch_queue.proofs.settled.Settled.front.Goals as goal

pub loop-insert-preserved : goal.loop-insert-preserved
loop-insert-preserved c =
    let before = c.loop-insert.insert-iterator in
    let after = c.next.new.self in
    let step = c.in-Some.ensures.steps in
    ap (λ (xs : List Insert). xs ++ take after.n (values_of after.iter)) c.in_ok-push.ensures.ok
    ∙ front_turn c.loop-insert.inserts (take c.args.count (settled c.args.self.now)) before.n after.n before.iter after.iter _ step.0 step.1 c.loop-insert.invariant
