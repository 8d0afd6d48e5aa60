use Rattle.std.proofs.Common.{◌≡◌, false, [], ◌∷◌, ◌++◌, List, is_some, rules, arith, sym, ap, ◌∙◌}
use Rattle.std.specs.BTreeMap.{get}
use Rattle.event_id.specs.declared.id.EventId.{EventId}
use Rattle.registry_state.specs.declared.Insert.{Insert}
use Rattle.registry_state.specs.LookBack.{first_in, or_else}
use Rattle.registry_state.proofs.Learning.{claims, claims_new, claims_old, claims_held}
use Rattle.id_expiry.specs.Times.{of_id, by_time}
use Rattle.id_expiry.specs.Timed.{token_of}
use Rattle.id_expiry.proofs.Tokens.{one_more, given}
use Rattle.id_expiry.proofs.timed.TimedRegistry.claim.Goals as goal
use Rattle.id_expiry.proofs.timed.TimedRegistry.claim.Goals.{else-insert-self-via-then-insert-self+else-is_none, else-insert-self-via-else-insert-self}

pub returns-then-is_none-clause-known : goal.returns-then-is_none-clause-known
returns-then-is_none-clause-known c = λ applied bound inserts k.
    let old = c.args.self.now in
    let x = c.args.insert in
    let held = λ (i : EventId). get by_time old.held (of_id i) in
    let now = c.push.new.self.items in
    let has = c.push.ensures.succeeds (omega (arith, c.requires)) in
    let pushed : now ≡ old.newest.items ++ x ∷ [] = search rules in
    let none : is_some (token_of old x.id) ≡ false = search rules in
    claims old.bound (token_of old) (λ i. or_else (held i) (first_in now i)) applied bound inserts x
    (claims_new old.bound (token_of old) (λ i. or_else (held i) (first_in now i)) x (omega arith) none
    (λ i. ap (λ (xs : List Insert). or_else (held i) (first_in xs i)) pushed ∙ sym (one_more (held i) old.newest.items x i) ∙ sym (given (token_of old) x.id x.token none i))) k

pub returns-else-insert-self-clause-known : goal.returns-else-insert-self-clause-known
returns-else-insert-self-clause-known c = λ applied bound inserts k.
    let old = c.args.self.now in
    elim c.else-insert-self.branch [
      | else-insert-self-via-then-insert-self+else-is_none w ↦ claims old.bound (token_of old) (token_of old) applied bound inserts c.args.insert (claims_held old.bound (token_of old) _ c.args.insert k (search rules)) k
      | else-insert-self-via-else-insert-self w ↦ claims old.bound (token_of old) (token_of old) applied bound inserts c.args.insert (claims_old old.bound (token_of old) _ c.args.insert k (omega arith)) k
    ]
