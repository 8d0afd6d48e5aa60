use Rattle.std.proofs.Common.{◌≡◌, ◌≤◌}
use Rattle.std.specs.BTreeMap.{get, btree_map_len}
use Rattle.event_id.specs.declared.id.EventId.{EventId}
use Rattle.id_expiry.specs.Times.{of_id, by_time}
use Rattle.id_expiry.proofs.timed.drop_below.Given as goal

-- only ids below the bound went out
abbrev pub invariant-loop-timed : goal.invariant-loop-timed
invariant-loop-timed l = (i : EventId) → l.bound ≤ i.micros → get by_time l.held (of_id i) ≡ get by_time l.fn.held (of_id i)

abbrev pub decreases-loop-timed : goal.decreases-loop-timed
decreases-loop-timed l = btree_map_len l.held
