use Rattle.std.proofs.Common.{◌≤◌, ◌+◌, List, [], ◌∷◌, ◌++◌, length, take}
use Rattle.registry_state.specs.declared.Batch.{Batch}
use Rattle.registry_state.specs.Registry.{batch_of}
use Rattle.id_expiry.specs.Timed.{Knows, room}
use Rattle.id_expiry.proofs.timed.TimedRegistry.learn.Given as goal

-- the batch is applied as far as the inserts so far, and there is room for the others
abbrev pub invariant-loop-insert : goal.invariant-loop-insert
invariant-loop-insert l =
    record {
      place : length l.insert-items ≤ room l.self + l.insert-index;
      used : room l.fn.self ≤ room l.self + l.insert-index;
      known : (applied : List Batch) → Knows l.fn.self applied → Knows l.self (applied ++ batch_of l.batch.bound (take l.insert-index l.insert-items) ∷ []);
    }
