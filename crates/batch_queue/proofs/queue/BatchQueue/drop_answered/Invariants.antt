use Rattle.std.proofs.Common.{◌≡◌, ◌≤◌, drop}
use Rattle.batch_queue.proofs.Words.{waiting, room}
use Rattle.batch_queue.proofs.Answering.{dropped}
use Rattle.batch_queue.proofs.queue.BatchQueue.drop_answered.Given as goal

-- what waits, and the ids that are left to take out
abbrev pub invariant-loop-insert : goal.invariant-loop-insert
invariant-loop-insert l =
    record {
      left : dropped (drop l.insert-index l.insert-items) (waiting l.self) ≡ dropped l.all (waiting l.initial.self);
      room : room l.initial.self ≤ room l.self;
    }
