-- A list from which some elements are left out.
use Rattle.std.proofs.Common.{◌≡◌, ◌<◌, ℕ, zero, suc, List, [], ◌∷◌, length, get_or, Bool, true, false, cond, sym, subst, arith, filter, Contains}
use Rattle.verify_pass.proofs.Words.{All-contains, filter_passes}

kept : {A : Type 0} (f : A → Bool) (xs : List A) (x : A) (k : ℕ) → k < length xs → get_or xs k x ≡ x → f x ≡ true → Contains (filter f xs) x
kept f [] x k lt e t = absurd (omega (arith, lt))
kept {A} f (y ∷ xs) x zero lt e t = grind arith
kept {A} f (y ∷ xs) x (suc k) lt e t = go (f y) (kept f xs x k (omega (arith, lt)) e t)
  where
    go : (s : Bool) → Contains (filter f xs) x → Contains (cond s (y ∷ filter f xs) (filter f xs)) x
    go true h = (suc h.0, omega (arith, h.1), h.2)
    go false h = h

-- the elements that pass, where each that passes is there
pub exactly : {A : Type 0} (left xs : List A) (f : A → Bool) → left ≡ filter f xs → ((x : A) → f x ≡ true → Contains xs x) → (x : A) → (Contains left x → f x ≡ true) × (f x ≡ true → Contains left x)
exactly {A} left xs f is all x = (λ h. All-contains (λ y. f y ≡ true) (filter f xs) x (filter_passes f xs) (subst (λ (l : List A). Contains l x) is h), λ t. subst (λ (l : List A). Contains l x) (sym is) (let h = all x t in kept f xs x h.0 h.1 h.2 t))
