use Rattle.std.proofs.Common.{◌≡◌, List, sym, subst, Contains}
use Rattle.verify_pass.proofs.Words.{btree_set_contains_iff, EventId}
use Rattle.event_id.proofs.Order.{ids_total, exact_ids}
use Rattle.verify_pass.proofs.states.inserted.Goals as goal

pub returns-clause-each : goal.returns-clause-each
returns-clause-each c = λ ends s applied i lt front some.
    let is : c.in_ok-ids.ids.items ≡ c.in_ok-set.set.keys = c.in_ok-ids.ensures in
    subst (λ (l : List EventId). Contains l i) (sym is) ((btree_set_contains_iff ids_total exact_ids c.in_ok-set.set i).0 (c.in_ok-set.ensures.each ends s applied i lt front some))
