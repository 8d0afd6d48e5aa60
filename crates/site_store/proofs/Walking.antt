-- Two lists of which one is changed from its front on.
use Rattle.std.proofs.Common.{◌≡◌, ◌<◌, inl, inr, ℕ, zero, suc, ◌+◌, List, [], ◌∷◌, ◌++◌, length, get_or, refl, sym, ap, subst, arith, add-one}
use Rattle.site_store.proofs.Words.{set, EachWith, OneWith}

-- R holds of the first i elements and those at their places, and from there on the lists are the same
abbrev pub FirstWith : {A : Type 0} → (A → A → Type 0) → ℕ → List A → List A → Type 0
FirstWith R zero xs ys = ys ≡ xs
FirstWith R (suc i) [] ys = ys ≡ []
FirstWith R (suc i) (x ∷ xs) [] = ⊥
FirstWith R (suc i) (x ∷ xs) (y ∷ ys) = R x y × FirstWith R i xs ys

-- the next element is unchanged
pub first_at : {A : Type 0} (R : A → A → Type 0) (i : ℕ) (xs ys : List A) (d : A) → FirstWith R i xs ys → get_or ys i d ≡ get_or xs i d
first_at R zero xs ys d so = ap (λ l. get_or l zero d) so
first_at R (suc i) [] ys d so = ap (λ l. get_or l (suc i) d) so
first_at R (suc i) (x ∷ xs) [] d so = absurd so
first_at R (suc i) (x ∷ xs) (y ∷ ys) d so = first_at R i xs ys d so.1

first_suc : {A : Type 0} (R : A → A → Type 0) (i : ℕ) (xs ys : List A) (d new : A) → FirstWith R i xs ys → i < length xs → R (get_or xs i d) new → FirstWith R (suc i) xs (set ys i new)
first_suc R i [] ys d new so lt is = absurd (omega (arith, lt))
first_suc R zero (x ∷ xs) ys d new so lt is = subst (λ l. FirstWith R (suc zero) (x ∷ xs) (set l zero new)) (sym so) (is, refl)
first_suc R (suc i) (x ∷ xs) [] d new so lt is = absurd so
first_suc R (suc i) (x ∷ xs) (y ∷ ys) d new so lt is = (so.0, first_suc R i xs ys d new so.1 (omega (arith, lt)) is)

-- it is changed
pub first_next : {A : Type 0} (R : A → A → Type 0) (i : ℕ) (xs ys : List A) (d new : A) → FirstWith R i xs ys → i < length xs → R (get_or ys i d) new → FirstWith R (i + 1) xs (set ys i new)
first_next {A} R i xs ys d new so lt is =
    let here : R (get_or xs i d) new = subst (λ (x : A). R x new) (first_at R i xs ys d so) is in
    subst (λ n. FirstWith R n xs (set ys i new)) (sym (add-one i)) (first_suc R i xs ys d new so lt here)

pub each_same : {A : Type 0} (R : A → A → Type 0) → ((x : A) → R x x) → (xs : List A) → EachWith R xs xs
each_same R same [] = tt
each_same R same (x ∷ xs) = (same x, each_same R same xs)

-- R holds of all elements, where it holds of what is unchanged
pub first_all : {A : Type 0} (R : A → A → Type 0) → ((x : A) → R x x) → (i : ℕ) (xs ys : List A) → FirstWith R i xs ys → EachWith R xs ys
first_all R same zero xs ys so = subst (EachWith R xs) (sym so) (each_same R same xs)
first_all R same (suc i) [] ys so = subst (EachWith R []) (sym so) tt
first_all R same (suc i) (x ∷ xs) [] so = absurd so
first_all R same (suc i) (x ∷ xs) (y ∷ ys) so = (so.0, first_all R same i xs ys so.1)

-- the same once it is changed
pub next_all : {A : Type 0} (R : A → A → Type 0) → ((x : A) → R x x) → (i : ℕ) (xs ys : List A) (d new : A) → FirstWith R i xs ys → i < length xs → R (get_or ys i d) new → EachWith R xs (set ys i new)
next_all R same i xs ys d new so lt is = first_all R same (i + 1) xs (set ys i new) (first_next R i xs ys d new so lt is)

one_at : {A : Type 0} (R S : A → A → Type 0) (i : ℕ) (xs ys : List A) (d new : A) → FirstWith R i xs ys → i < length xs → S (get_or xs i d) new → OneWith S xs (set ys i new)
one_at R S i [] ys d new so lt is = absurd (omega (arith, lt))
one_at R S zero (x ∷ xs) ys d new so lt is = subst (λ l. OneWith S (x ∷ xs) (set l zero new)) (sym so) (inl is)
one_at R S (suc i) (x ∷ xs) [] d new so lt is = absurd so
one_at R S (suc i) (x ∷ xs) (y ∷ ys) d new so lt is = inr (one_at R S i xs ys d new so.1 (omega (arith, lt)) is)

-- S holds of the element that is changed
pub next_one : {A : Type 0} (R S : A → A → Type 0) (i : ℕ) (xs ys : List A) (d new : A) → FirstWith R i xs ys → i < length xs → S (get_or ys i d) new → OneWith S xs (set ys i new)
next_one {A} R S i xs ys d new so lt is = one_at R S i xs ys d new so lt (subst (λ (x : A). S x new) (first_at R i xs ys d so) is)

-- two lists, and two behind them
pub each_with_append : {A B : Type 0} (R : A → B → Type 0) (xs zs : List A) (ys ws : List B) → EachWith R xs ys → EachWith R zs ws → EachWith R (xs ++ zs) (ys ++ ws)
each_with_append R [] zs [] ws h k = k
each_with_append R (x ∷ xs) zs (y ∷ ys) ws h k = (h.0, each_with_append R xs zs ys ws h.1 k)
each_with_append R _ zs _ ws h k = absurd h
