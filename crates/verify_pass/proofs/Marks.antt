-- One mark more.
use Rattle.std.proofs.Common.{◌≡◌, ℕ, zero, suc, ◌+◌, ◌∷◌, Bool, true, false, cond, arith}
use Rattle.verify_pass.proofs.Words.{marked, marks}

pub marks_push : (f : ℕ → Bool) (n : ℕ) → marked (marks f (suc n)) ≡ marked (marks f n) + cond (f n) 1 0
marks_push f zero = grind arith
marks_push f (suc n) = go (f 0) (marks_push (λ k. f (suc k)) n)
  where
    go : (t : Bool) → marked (marks (λ k. f (suc k)) (suc n)) ≡ marked (marks (λ k. f (suc k)) n) + cond (f (suc n)) 1 0 → marked (t ∷ marks (λ k. f (suc k)) (suc n)) ≡ marked (t ∷ marks (λ k. f (suc k)) n) + cond (f (suc n)) 1 0
    go true e = omega (arith, e)
    go false e = e
