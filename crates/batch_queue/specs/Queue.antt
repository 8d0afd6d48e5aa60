-- What a queue holds.
use Rattle.std.specs.Prelude.{ℕ, List, ◌++◌, option_to_list}
use Rattle.std.specs.Map.{values_of}
use Rattle.registry_state.specs.declared.Insert.{Insert}
use Rattle.batch_queue.specs.Waiting.{room_beside}
use Rattle.batch_queue.specs.declared.settled.Settled.{Settled}
use Rattle.batch_queue.specs.declared.queue.BatchQueue.{BatchQueue}

-- the inserts that have a place in the order
abbrev pub settled : Settled → List Insert
settled s = values_of s.in_order.entries

-- the inserts that wait
abbrev pub waiting : BatchQueue → List Insert
waiting queue = settled queue.settled ++ option_to_list queue.newest

-- for how many more there is room
abbrev pub room : BatchQueue → ℕ
room queue = room_beside queue.newest
