use Rattle.std.proofs.Common.{◌≡◌, ◌||◌, ◌<◌, ◌+◌, ℕ, Bool, true, false, nat_lt, is_some, refl, sym, ◌∙◌, subst, arith}
use Rattle.verify_pass.proofs.Words.{contains, ltb-true, ltb-false, id_cmp, first_insert, slots, IsFront}
use Rattle.verify_pass.proofs.states.inserted_set.Goals as goal

right : (new old more : Bool) → new ≡ (old || more) → more ≡ true → new ≡ true
right new true more e h = e
right new false more e h = e ∙ h

pub loop-shard-init : goal.loop-shard-init
loop-shard-init c = record {
  rising = c.new-ids.ensures.ordered;
  each = λ ends s applied i lt front some. absurd (omega (arith, lt));
}

-- of an earlier shard, or of this one
case : (s shard : ℕ) (P : Type 0) → s < shard + 1 → (s < shard → P) → (shard ≡ s → P) → P
case s shard P lt below here = go (nat_lt s shard) refl
  where
    go : (t : Bool) → nat_lt s shard ≡ t → P
    go true e = below (ltb-true s shard e)
    go false e = here (let le = ltb-false s shard e in omega (arith, le, lt))

pub loop-shard-preserved : goal.loop-shard-preserved
loop-shard-preserved c = record {
  rising = c.in_ok-add_shard.ensures.rising c.loop-shard.invariant.rising;
  each = λ ends s applied i lt front some.
      case s c.loop-shard.shard (contains id_cmp c.add_shard.new.ids i ≡ true) lt
      (λ below. c.in_ok-add_shard.ensures.kept i (c.loop-shard.invariant.each ends s applied i below front some))
      (λ here. right (contains id_cmp c.add_shard.new.ids i) (contains id_cmp c.loop-shard.ids i) (is_some (first_insert applied i)) (c.in_ok-add_shard.ensures.each ends applied (subst (λ (n : ℕ). IsFront (slots c.args.chosen.now n) applied) (sym here) front) i) some);
}
