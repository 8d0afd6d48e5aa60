use Rattle.std.proofs.Common.{rules, arith}
use Rattle.registry_state.specs.Registry.{token_of}
use Rattle.registry_state.proofs.Learning.{claims, claims_new, claims_old, claims_held, succeeded}
use Rattle.registry_state.proofs.registry.Registry.claim.Goals as goal
use Rattle.registry_state.proofs.registry.Registry.claim.Goals.{else-insert-self-via-then-insert-self+else-not-contains_key, else-insert-self-via-else-insert-self}

pub returns-then-not-contains_key-clause-known : goal.returns-then-not-contains_key-clause-known
returns-then-not-contains_key-clause-known c = λ applied bound inserts k.
    let old = c.args.self.now in
    let new = record old { held = c.insert.new.self } in
    claims old.bound (token_of old) (token_of new) applied bound inserts c.args.insert
    (claims_new old.bound (token_of old) (token_of new) c.args.insert (omega arith) (search rules)
    (succeeded c.insert.result _ (c.insert.ensures.succeeds c.requires) c.insert.ensures.updates).0) k

pub returns-else-insert-self-clause-known : goal.returns-else-insert-self-clause-known
returns-else-insert-self-clause-known c = λ applied bound inserts k.
    let old = c.args.self.now in
    elim c.else-insert-self.branch [
      | else-insert-self-via-then-insert-self+else-not-contains_key w ↦ claims old.bound (token_of old) (token_of old) applied bound inserts c.args.insert (claims_held old.bound (token_of old) _ c.args.insert k (search rules)) k
      | else-insert-self-via-else-insert-self w ↦ claims old.bound (token_of old) (token_of old) applied bound inserts c.args.insert (claims_old old.bound (token_of old) _ c.args.insert k (omega arith)) k
    ]
