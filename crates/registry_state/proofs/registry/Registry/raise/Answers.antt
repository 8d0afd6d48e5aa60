use Rattle.std.proofs.Common.{rules, arith, not, ltb}
use Rattle.std.proofs.lemmas.Map.Made.{filter_same_pairs}
use Rattle.registry_state.specs.Registry.{token_of}
use Rattle.registry_state.proofs.Learning.{raises_above, stays_above, after_filter}
use Rattle.registry_state.proofs.registry.Registry.raise.Goals as goal

pub returns-then-bound-self-clause-known : goal.returns-then-bound-self-clause-known
returns-then-bound-self-clause-known c = λ applied k.
    let old = c.args.self.now in
    raises_above old.bound (token_of old) _ applied c.args.bound k (omega arith)
    (after_filter old.held.entries c.retain.new.self.entries c.args.bound (filter_same_pairs _ (λ e. not (ltb e.0.micros c.args.bound)) _ (λ id v b w f' t. search rules) _ _ c.retain.ensures.filtered))

pub returns-else-bound-self-clause-known : goal.returns-else-bound-self-clause-known
returns-else-bound-self-clause-known c = λ applied k. stays_above c.args.self.now.bound (token_of c.args.self.now) applied c.args.bound k (omega arith)
