-- One node more.
use Rattle.std.proofs.Common.{◌≡◌, ◌<◌, ℕ, List, [], ◌∷◌, ◌++◌, length, Bool, false, ap, ◌∙◌, arith}
use Rattle.std.proofs.Common.{length-append}
use mathlib.Core.Logic.{dite}
use native.Mathlib.Decide.{ℕ_discrete}
use Rattle.std.proofs.lemmas.List.{get_or_append_left, get_or_push}
use Rattle.std.proofs.lemmas.List.Elements.{All-push}
use Rattle.run_tests.specs.Puppets.{AreReady}

pub one_more : {N : Type 0} (number : N → ℕ) (waits : N → Bool) (nodes : List N) (n : N) → AreReady number waits nodes → number n ≡ length nodes → waits n ≡ false → AreReady number waits (nodes ++ n ∷ [])
one_more {N} number waits nodes n ready at up = record {
  numbers = λ i d l.
      dite (ℕ_discrete (length nodes) i)
      (λ same. ap number (get_or_push nodes n d i same) ∙ at ∙ same)
      (λ other. ap number (get_or_append_left nodes (n ∷ []) d i (inside i other l)) ∙ ready.numbers i d (inside i other l));
  up = All-push (λ (m : N). waits m ≡ false) nodes n ready.up up;
}
  where
    inside : (i : ℕ) → (length nodes ≡ i → ⊥) → i < length (nodes ++ n ∷ []) → i < length nodes
    inside i other l = omega (arith, l, length-append nodes (n ∷ []), other)
