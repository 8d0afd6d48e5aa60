use Rattle.std.proofs.Common.{◌≡◌, []}
use Rattle.batch_queue.proofs.Numbered.{picked}
use Rattle.batch_queue.proofs.settled.Settled.of_ids.Given as goal

-- what is picked, and the ids that are left
abbrev pub invariant-loop-id : goal.invariant-loop-id
invariant-loop-id l = picked l.self.in_order.entries l.id-iterator l.picked.entries ≡ picked l.self.in_order.entries l.ids.keys []
