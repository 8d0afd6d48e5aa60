-- One record more of a kind whose records are taken one by one.
use Rattle.std.proofs.Common.{◌≡◌, ◌⊎◌, inl, inr, ℕ, ◌+◌, List, [], ◌∷◌, ◌++◌, length, refl, sym, ◌∙◌, ap, arith, Option, None, Some, Result, Ok, Err}
use Rattle.std.specs.Coded.{Coded, Coded-set, coded_result, coded_ℕ}
use Rattle.gate_journal.specs.Gate.{spans}
use Rattle.gate_journal.specs.Records.{Read}
use Rattle.gate_journal.specs.Fold.{Fold, kept_after, folds_to, fails_at}

module _ {V : Type 0} (fold : Fold V) where
  taken : (value next : V) (place : ℕ) (r : List ℕ) (rs : List (List ℕ)) → fold.next value r ≡ Some next
      → kept_after fold value place (r ∷ rs) ≡ kept_after fold next (place + 5 + length r) rs
  taken value next place r rs is = rw (is, kept_after) refl

  refused : (value : V) (place : ℕ) (r : List ℕ) (rs : List (List ℕ)) → fold.next value r ≡ None → kept_after fold value place (r ∷ rs) ≡ Err place
  refused value place r rs is = rw (is, kept_after) refl

  abbrev kept_as : V → Result V ℕ
  kept_as value = Ok value

  abbrev refused_at : ℕ → Result V ℕ
  refused_at place = Err place

  same_kept : (x y : V) → kept_as x ≡ kept_as y → x ≡ y
  same_kept x y e = (cc)

  not_kept : (place : ℕ) (x : V) → refused_at place ≡ kept_as x → ⊥
  not_kept place x e = (cc)

  cases_option : (o : Option V) → ((next : V) × (o ≡ Some next)) ⊎ (o ≡ None)
  cases_option (Some next) = inl (next, refl)
  cases_option None = inr refl

  -- what is behind records that are read is read from what they stand for
  goes_on : (ps : List (List ℕ)) (value : V) (place : ℕ) (kept : V) (rest : List (List ℕ)) → kept_after fold value place ps ≡ Ok kept
      → kept_after fold value place (ps ++ rest) ≡ kept_after fold kept (place + spans ps) rest
  goes_on [] value place kept rest is = ap (λ (v : V). kept_after fold v place rest) (same_kept value kept is) ∙ ap (λ (n : ℕ). kept_after fold kept n rest) (omega arith)
  goes_on (q ∷ qs) value place kept rest is = elim (cases_option (fold.next value q)) [
    | inl m ↦
        taken value m.0 place q (qs ++ rest) m.1 ∙ goes_on qs m.0 (place + 5 + length q) kept rest (sym (taken value m.0 place q qs m.1) ∙ is)
        ∙ ap (λ (n : ℕ). kept_after fold kept n rest) (omega arith)
    | inr none ↦ absurd (not_kept place kept (sym (refused value place q qs none) ∙ is))
  ]

  pub comes_next : (ps : List (List ℕ)) (kept next : V) (r : List ℕ) → folds_to fold kept (Ok ps) → fold.next kept r ≡ Some next → folds_to fold next (Ok (ps ++ r ∷ []))
  comes_next ps kept next r is one = goes_on ps fold.start 1 kept (r ∷ []) is ∙ taken kept next (1 + spans ps) r [] one

  pub comes_wrong : (ps rest : List (List ℕ)) (kept : V) (r : List ℕ) → folds_to fold kept (Ok ps) → fold.next kept r ≡ None → fails_at fold (Ok (ps ++ r ∷ rest)) (1 + spans ps)
  comes_wrong ps rest kept r is none = goes_on ps fold.start 1 kept (r ∷ rest) is ∙ refused kept (1 + spans ps) r rest none

  pub once : Coded V → (value : V) (read : Read) → IsProp (folds_to fold value read)
  once code value read = Coded-set (coded_result code coded_ℕ) _ _
