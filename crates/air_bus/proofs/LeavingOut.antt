-- The numbers of the dead among the first nodes.
use Rattle.std.proofs.Common.{◌≡◌, ℕ, ◌<◌, ◌≤◌, Bool, false, eqb, List}
use Rattle.air_bus.proofs.Words.{list_any}

-- of the numbers below k these are the dead ones
pub record AreDeadBelow (dead : ℕ → Bool) (k : ℕ) (numbers : List ℕ) : Type 0 where
  pub below : (n : ℕ) → n < k → list_any (λ m. eqb m n) numbers ≡ dead n
  pub rest : (n : ℕ) → k ≤ n → list_any (λ m. eqb m n) numbers ≡ false
