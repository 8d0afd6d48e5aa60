use Rattle.std.proofs.Common.{ℕ, List, refl, arith, IsTrue}
use Rattle.event_store.proofs.Holding.{held_none, held_on}
use Rattle.event_store.proofs.store.EventStore.new.Goals as goal

pub invariant_of-result : goal.invariant_of-result
invariant_of-result g c =
    let log : List ℕ = g.L.LogFile.bytes c.new-in-Ok.result.log in record {
      small = omega arith;
      held = held_on log log 0 c.new-in-Ok.result.place 0 c.new-in-Ok-2.result c.in-Ok.recent.records.entries (held_none {T = IsTrue g.L.LogFile.tells} (λ t. log) c.new-in-Ok-2.result c.in-Ok.recent.records.entries c.new-in-Ok-2.ensures c.in-Ok.ensures.none) (λ t. refl) c.new-in-Ok.ensures.place;
    }
