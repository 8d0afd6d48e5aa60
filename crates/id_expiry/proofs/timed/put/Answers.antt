use Rattle.std.proofs.Common.{◌≡◌, Bool, false, cond, Option, Some, is_some, is_eq, sym, ap, subst, ◌∙◌}
use Rattle.std.specs.BTreeMap.{get}
use Rattle.event_id.specs.declared.id.EventId.{EventId}
use Rattle.registry_state.specs.declared.Token.{Token}
use Rattle.id_expiry.specs.declared.by_time.ByTime.{ByTime}
use Rattle.id_expiry.specs.Times.{of_id, by_time}
use Rattle.id_expiry.proofs.Tokens.{tie, given}
use Rattle.id_expiry.proofs.timed.put.Goals as goal

pub returns-in_ok-insert-clause-ok : goal.returns-in_ok-insert-clause-ok
returns-in_ok-insert-clause-ok c = λ i.
    let own = Some c.args.token in
    let was : EventId → Option Token = λ j. get by_time c.args.held.now (of_id j) in
    let none : is_some (was c.args.id) ≡ false = subst (λ (k : ByTime). is_some (get by_time c.args.held.now k) ≡ false) c.by_time-timed.ensures (sym c.contains_key.ensures ∙ c.if-not-contains_key.true) in
    c.in_ok-insert.ensures.updates.0 (of_id i) ∙ ap (λ (k : ByTime). cond (is_eq (by_time k (of_id i))) own (was i)) c.by_time-timed.ensures ∙ ap (λ (b : Bool). cond b own (was i)) (tie c.args.id i) ∙ given was c.args.id c.args.token none i
