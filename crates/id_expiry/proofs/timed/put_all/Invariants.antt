use Rattle.std.proofs.Common.{◌≡◌, take}
use Rattle.std.specs.BTreeMap.{get}
use Rattle.event_id.specs.declared.id.EventId.{EventId}
use Rattle.registry_state.specs.LookBack.{first_in, or_else}
use Rattle.id_expiry.specs.Times.{of_id, by_time}
use Rattle.id_expiry.proofs.timed.put_all.Given as goal

-- those so far are in
abbrev pub invariant-loop-insert : goal.invariant-loop-insert
invariant-loop-insert l = (i : EventId) → get by_time l.held (of_id i) ≡ or_else (get by_time l.initial.held (of_id i)) (first_in (take l.insert-index l.inserts) i)
