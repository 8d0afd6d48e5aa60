-- Which ids a batch may answer.
use Rattle.std.specs.Prelude.{◌≡◌, is_some}
use Rattle.std.specs.HashSet.{HashSet, contains}
use Rattle.event_id.specs.declared.id.EventId.{EventId}
use Rattle.event_id.specs.EventId.{is_same as same_id}
use Rattle.registry_state.specs.declared.Batch.{Batch}
use Rattle.registry_state.specs.LookBack.{first_in}

-- the set has the ids of the batch's inserts
abbrev pub HasIds : {S : Type 0} → HashSet EventId S → Batch → Type 0
HasIds ids batch = (i : EventId) → contains same_id ids i ≡ is_some (first_in batch.inserts i)
