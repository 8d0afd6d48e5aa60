-- What the front of a plan's file tells of the file.
use Rattle.std.proofs.Common.{◌≡◌, ℕ, ◌<◌, ◌≤◌, ⊎_elim, List, Option, Some, None, length, take, sym, subst, arith}
use Rattle.photon_cli.proofs.Words.{IsSomeAnd, cases_lt, take_all, length-take, PlanView, Outcome, HasOutcome, size_limit}

-- a text that is longer than a plan may be has one outcome, whatever its end
long_one : (bytes other : List ℕ) (o : Outcome PlanView) → size_limit < length bytes → size_limit < length other → HasOutcome bytes o → HasOutcome other o
long_one bytes other o long far h = grind arith

module _ (most : ℕ) (more : size_limit < most) where
  same : (bytes : List ℕ) → length bytes ≤ size_limit → take most bytes ≡ bytes
  same bytes le = take_all most bytes (omega (arith, le, more))

  long : (bytes : List ℕ) → size_limit < length bytes → size_limit < length (take most bytes)
  long bytes lt = omega (arith, length-take most bytes, lt, more)

  of_front : (bytes : List ℕ) (o : Outcome PlanView) → HasOutcome (take most bytes) o → HasOutcome bytes o
  of_front bytes o has = ⊎_elim (λ lt. long_one (take most bytes) bytes o (long bytes lt) lt has) (λ le. subst (λ (b : List ℕ). HasOutcome b o) (same bytes le) has) (cases_lt size_limit (length bytes))

  to_front : (bytes : List ℕ) (o : Outcome PlanView) → HasOutcome bytes o → HasOutcome (take most bytes) o
  to_front bytes o has = ⊎_elim (λ lt. long_one bytes (take most bytes) o lt (long bytes lt) has) (λ le. subst (λ (b : List ℕ). HasOutcome b o) (sym (same bytes le)) has) (cases_lt size_limit (length bytes))

  -- of a file under a name whose front was read
  pub of_file : (file : Option (List ℕ)) (read : List ℕ) (o : Outcome PlanView) → IsSomeAnd file (λ b. read ≡ take most b) → HasOutcome read o → IsSomeAnd file (λ b. HasOutcome b o)
  of_file None read o is has = absurd is
  of_file (Some b) read o is has = of_front b o (subst (λ (x : List ℕ). HasOutcome x o) is has)

  pub to_read : (file : Option (List ℕ)) (read : List ℕ) (o : Outcome PlanView) → IsSomeAnd file (λ b. read ≡ take most b) → IsSomeAnd file (λ b. HasOutcome b o) → HasOutcome read o
  to_read None read o is has = absurd has
  to_read (Some b) read o is has = subst (λ (x : List ℕ). HasOutcome x o) (sym is) (to_front b o has)
