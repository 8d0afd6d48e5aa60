-- A text up to the first of a byte, and one without it.
use Rattle.std.proofs.Common.{◌≡◌, ◌≢◌, ℕ, suc, ◌+◌, Bool, true, false, cond, not, eqb, List, [], ◌∷◌, Contains, take, refl, sym, subst, arith}
use Rattle.std.specs.List.{position_or_len, before_first}
use Rattle.std.proofs.lemmas.Bool.Decides.{nat_tests}
use Rattle.list_words.specs.Bytes.{Lacks}

apart : (byte x : ℕ) → false ≡ eqb x byte → x ≢ byte
apart byte x e same = grind (arith, nat_tests)

front_step : (byte x n : ℕ) (xs : List ℕ) (b : Bool) → b ≡ eqb x byte → Lacks byte (take n xs) → Lacks byte (take (cond (not b) (1 + n) 0) (x ∷ xs))
front_step byte x n xs true e h = tt
front_step byte x n xs false e h = let more : 1 + n ≡ suc n = omega arith in rw more (apart byte x e, h)

lacks_front : (byte : ℕ) (text : List ℕ) → Lacks byte (take (position_or_len (λ b. eqb b byte) text) text)
lacks_front byte [] = tt
lacks_front byte (x ∷ xs) = front_step byte x (position_or_len (λ b. eqb b byte) xs) xs (eqb x byte) refl (lacks_front byte xs)

pub front_lacks : (byte : ℕ) (front text : List ℕ) → front ≡ before_first (λ b. eqb b byte) text → Lacks byte front
front_lacks byte front text e = subst (Lacks byte) (sym e) (lacks_front byte text)

pub none_lacks : (byte : ℕ) (text : List ℕ) → (Contains text byte → ⊥) → Lacks byte text
none_lacks byte [] h = tt
none_lacks byte (x ∷ xs) h = (λ e. h (0, omega arith, e), none_lacks byte xs (λ m. let lt = m.1 in h (suc m.0, omega arith, m.2)))
