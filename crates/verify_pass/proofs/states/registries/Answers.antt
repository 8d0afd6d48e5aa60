use Rattle.std.proofs.Common.{◌≡◌, ℕ, ◌+◌, List, [], ◌∷◌, length, length-append, Some, ⊎_elim, ap, sym, ◌∙◌, subst, slice_get}
use Rattle.verify_pass.proofs.Words.{TimedRegistry, at_push, slots, IsWhole}
use Rattle.verify_pass.proofs.states.registries.Goals as goal

pub loop-shard-preserved : goal.loop-shard-preserved
loop-shard-preserved c =
    let old = c.loop-shard.registries.items in
    let x = c.in_ok-registry.registry in
    record {
      count = ap length c.in_ok-push.ensures.items ∙ length-append old (x ∷ []) ∙ ap (λ (n : ℕ). n + 1) c.loop-shard.invariant.count;
      known = λ ends s state at. ⊎_elim
          (λ k. c.loop-shard.invariant.known ends s state k)
          (λ (k : (s ≡ length old) × (x ≡ state)).
          let here : c.loop-shard.shard ≡ s = sym (k.0 ∙ c.loop-shard.invariant.count) in
          subst (λ (z : ℕ × TimedRegistry). IsWhole (slots c.args.chosen.now z.0) z.1) (λ i. (here i, k.1 i)) (c.in_ok-registry.ensures ends))
          (at_push old x s state (subst (λ (xs : List TimedRegistry). slice_get xs s ≡ Some state) c.in_ok-push.ensures.items at));
    }
