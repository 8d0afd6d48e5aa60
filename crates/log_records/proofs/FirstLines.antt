-- The map of first lines, one line more.
use Rattle.std.proofs.Common.{◌≡◌, ◌≢◌, ◌⊎◌, inl, inr, ℕ, true, false, List, [], ◌∷◌, ◌++◌, Some, Contains, unwrap_or, sym, ap, subst, ◌∙◌, arith}
use Rattle.std.specs.Prelude.{Option}
use Rattle.log_records.proofs.Words.{AfterWhy, Contains-append_left, Contains-push, Contains-push_cases, EventId, Keeps, OrMemory, Seen, Why, cases_Bool, is_at, line_at}
use Rattle.list_words.proofs.Lists.{some_same}
use Rattle.log_records.specs.declared.why.Why.TheVariants as why

-- ---- ids that are one

pub id_same : (x y : EventId) → is_at x y ≡ true → x ≡ y
id_same x y e = grind arith

-- ---- the map

kept_line : (o : Option (List ℕ)) (first line : List ℕ) → o ≡ Some first → unwrap_or o line ≡ line → first ≡ line
kept_line o first line e same = grind arith

module _ {R : Type 0} (line_of : R → List ℕ) (id_of : R → EventId) where
  module _ (old new : Seen) (rs : List R) (r : R) (id : EventId) (line : List ℕ) (is_line : line ≡ line_of r) (is_id : id_of r ≡ id) (same : unwrap_or (line_at old id) line ≡ line) (kept : line_at new id ≡ Some line) (others : (k : EventId) → is_at id k ≡ false → line_at new k ≡ line_at old k) (keeps : Keeps line_of id_of old rs) where
    each_kept : (x : R) → Contains (rs ++ r ∷ []) x → line_at new (id_of x) ≡ Some (line_of x)
    each_kept x among =
        elim (Contains-push_cases rs r x among) [
          | inr is ↦ subst (λ (y : R). line_at new (id_of y) ≡ Some (line_of y)) is (ap (line_at new) is_id ∙ kept ∙ ap Some is_line)
          | inl before ↦ elim (cases_Bool (is_at id (id_of x))) [
            | inl at ↦
                let here = id_same id (id_of x) at in
                let first = ap (line_at old) here ∙ keeps.each x before in
                ap (line_at new) (sym here) ∙ kept ∙ ap Some (sym (kept_line (line_at old id) (line_of x) line first same))
            | inr apart ↦ others (id_of x) apart ∙ keeps.each x before
          ]
        ]

    only_kept : (k : EventId) (l : List ℕ) → line_at new k ≡ Some l → (x : R) × Contains (rs ++ r ∷ []) x × (id_of x ≡ k) × (line_of x ≡ l)
    only_kept k l e =
        elim (cases_Bool (is_at id k)) [
          | inl at ↦
              let here = id_same id k at in
              (r, Contains-push rs r, is_id ∙ here, sym is_line ∙ some_same line l (sym kept ∙ ap (line_at new) here ∙ e))
          | inr apart ↦ let was = keeps.only k l (sym (others k apart) ∙ e) in (was.0, Contains-append_left rs (r ∷ []) was.0 was.1, was.2, was.3)
        ]

    pub keeps_push : Keeps line_of id_of new (rs ++ r ∷ [])
    keeps_push = record { each = each_kept; only = only_kept }

  -- two records of the map with one id have one line
  pub keeps_one : (seen : Seen) (rs : List R) → Keeps line_of id_of seen rs → (r s : R) → Contains rs r → Contains rs s → id_of r ≡ id_of s → line_of r ≡ line_of s
  keeps_one seen rs keeps r s a b e = some_same (line_of r) (line_of s) (sym (keeps.each r a) ∙ ap (line_at seen) e ∙ keeps.each s b)

  -- what is told of a line that isn't taken in
  pub told_after : (IsRecord : R → Type 0) (LineWhy : List ℕ → Why → Type 0) (seen : Seen) (rs : List R) (r : R) (id : EventId) (line : List ℕ) (w : Why) → IsRecord r → line ≡ line_of r → id_of r ≡ id → Keeps line_of id_of seen rs → (w ≡ why.Memory) ⊎ ((unwrap_or (line_at seen id) line ≢ line) × (w ≡ why.Conflict)) → OrMemory (AfterWhy line_of IsRecord id_of LineWhy rs line) w
  told_after IsRecord LineWhy seen rs r id line w valid is_line is_id keeps h = grind arith
