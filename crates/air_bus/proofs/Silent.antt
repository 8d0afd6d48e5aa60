-- A dead replica has no entry.
use Rattle.std.proofs.Common.{◌≡◌, ℕ, true, List, [], ◌∷◌, ◌++◌, append_assoc, refl, sym, ◌∙◌, ne_eqb, arith}
use Rattle.std.specs.Prelude.{filter}
use Rattle.air_bus.proofs.Words.{Entry, Down, Kind, PlanView, MayFollow, IsAired, node_of, is_of, phase, is_dead}
use Rattle.air_bus.proofs.Phases.{phase_else}

module _ (plan : PlanView) (kinds : List Kind) (n : ℕ) (dead : is_dead plan.dead kinds n ≡ true) where
  -- an entry of its own would follow none of this kind
  none_begins : (before : List Entry) (e : Entry) → phase n before ≡ Down → MayFollow plan kinds before e → node_of e ≡ n → ⊥
  none_begins before e down may is = grind arith

  pub none_made : (h : List Entry) → IsAired plan kinds h → filter (is_of n) h ≡ []
  none_made h aired = go [] h refl refl
    where
      go : (before after : List Entry) → h ≡ before ++ after → phase n before ≡ Down → filter (is_of n) after ≡ []
      go before [] is down = refl
      go before (e ∷ after) is down =
          let other : node_of e ≡ n → ⊥ = none_begins before e down (aired.follows before after e is) in
          let rest = go (before ++ e ∷ []) after (is ∙ sym (append_assoc before (e ∷ []) after)) (phase_else before e n other ∙ down) in
          rw (ne_eqb _ _ other) rest
