-- Sets of positions, and lists of them.
use Rattle.std.proofs.Common.{◌≡◌, ℕ, Bool, true, false, cond, ◌||◌, nat_eq, List, [], ◌∷◌, ◌++◌, take, refl, sym, subst, ◌∙◌, arith}
use Rattle.dispatch_core.proofs.Words.{list_any, remove_key, nat_eq_equiv, eqb-true, eqb-false, insert_key, has, without, Distinct, has_push, has_without, has_without-false, has_without-self}

pub any_has : (xs : List ℕ) (p : ℕ) → list_any (nat_eq p) xs ≡ has xs p
any_has [] p = refl
any_has (x ∷ xs) p = λ i. nat_eq_equiv.symm p x i || any_has xs p i

pub without_absent : (xs : List ℕ) (p : ℕ) → has xs p ≡ false → without xs p ≡ xs
without_absent [] p h = refl
without_absent (x ∷ xs) p h = grind (arith, without_absent xs p)

pub removed : (xs : List ℕ) (p : ℕ) → Distinct xs → remove_key (nat_eq p) xs ≡ without xs p
removed [] p d = refl
removed (x ∷ xs) p d = grind (arith, without_absent, removed xs p d.1)

-- the first due position goes last in trial
pub tried : (due rest trying keys : List ℕ) (p : ℕ) → due ≡ p ∷ rest → (has due p ≡ true → has trying p ≡ false) → keys ≡ insert_key nat_eq trying p → keys ≡ trying ++ take 1 due
tried due rest trying keys p first apart is = grind (arith, any_has)

-- one position more, and one less
pub one_more : (c : Bool) (xs : List ℕ) (p q : ℕ) → c ≡ has xs q → cond (nat_eq p q) true c ≡ has (xs ++ p ∷ []) q
one_more c xs p q h = go (nat_eq p q) ∙ sym (has_push xs p q)
  where
    or_true : (b : Bool) → true ≡ (b || true)
    or_true h = grind arith

    or_false : (b : Bool) → b ≡ (b || false)
    or_false h = grind arith

    go : (b : Bool) → cond b true c ≡ (has xs q || b)
    go true = or_true (has xs q)
    go false = h ∙ or_false (has xs q)

pub one_less : (c : Bool) (xs : List ℕ) (p q : ℕ) → c ≡ has xs q → cond (nat_eq p q) false c ≡ has (without xs p) q
one_less c xs p q h = go (nat_eq p q) refl
  where
    stays : (b : Bool) → has xs q ≡ b → nat_eq p q ≡ false → c ≡ has (without xs p) q
    stays true t e = h ∙ t ∙ sym (has_without xs p q t (λ s. eqb-false p q e (sym s)))
    stays false t e = h ∙ t ∙ sym (has_without-false xs p q t)

    go : (b : Bool) → nat_eq p q ≡ b → cond b false c ≡ has (without xs p) q
    go true e = sym (subst (λ (n : ℕ). has (without xs p) n ≡ false) (eqb-true p q e) (has_without-self xs p))
    go false e = stays (has xs q) refl e
