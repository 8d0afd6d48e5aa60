-- The first place of each id.
use Rattle.std.proofs.Common.{◌≡◌, ◌⊎◌, inl, inr, ℕ, ◌+◌, true, false, Bool, Option, Some, None, List, [], ◌∷◌, ◌++◌, length, map, Contains, get_or, unwrap_or, refl, sym, ap, subst, ◌∙◌, arith}
use Rattle.std.specs.Prelude.{if◌then◌else◌}
use Rattle.std.specs.Option.{option_or}
use Rattle.std.proofs.lemmas.Bool.Decides.{nat_tests}
use Rattle.std.proofs.lemmas.Option.{none-some}
use Rattle.log_records.proofs.Words.{Contains-append_cases, EventId, cases_Bool, is_at, length-append, line_feed, whole}
use Rattle.log_records.proofs.FirstLines.{id_same}
use Rattle.log_records.specs.FirstPlaces.{Places, place_at, first_place, Keeps}

pub length-one : (line : List ℕ) (lines : List (List ℕ)) → length (whole (line ∷ lines)) ≡ length line + 1 + length (whole lines)
length-one line lines = omega (arith, length-append (line ++ line_feed ∷ []) (whole lines), length-append line (line_feed ∷ []))

at_itself : (x : EventId) → is_at x x ≡ true
at_itself x = grind (arith, nat_tests)

by_test : (b : Bool) (p q : ℕ) (o : Option ℕ) → (if b then Some p else o) ≡ Some q → ((b ≡ true) × (p ≡ q)) ⊎ ((b ≡ false) × (o ≡ Some q))
by_test b p q o e = grind arith

none_by_test : (b : Bool) (p : ℕ) (o : Option ℕ) → (if b then Some p else o) ≡ None → (b ≡ false) × (o ≡ None)
none_by_test b p o e = grind arith

either_by_test : (b : Bool) (p : ℕ) (new old more : Option ℕ) → new ≡ option_or old more → (if b then Some p else new) ≡ option_or (if b then Some p else old) more
either_by_test b p new old more e = grind arith

one_of : {R : Type 0} (r x : R) → Contains (r ∷ []) x → r ≡ x
one_of r x (k, below, is) = let first : k ≡ 0 = omega arith in subst (λ (n : ℕ). get_or (r ∷ []) n x ≡ x) first is

module _ {R : Type 0} (line_of : R → List ℕ) (id_of : R → EventId) where
  -- what is found is the place of a record's line
  pub found : (p : ℕ) (rs : List R) (id : EventId) (q : ℕ) → first_place line_of id_of p rs id ≡ Some q → (before : List R) × (r : R) × (after : List R) × (rs ≡ before ++ r ∷ after) × (id_of r ≡ id) × (q ≡ p + length (whole (map line_of before)))
  found p [] id q e = absurd (none-some q e)
  found p (r ∷ rs) id q e =
      elim (by_test (is_at (id_of r) id) p q (first_place line_of id_of (p + length (line_of r) + 1) rs id) e) [
        | inl here ↦ ([], r, rs, refl, id_same (id_of r) id here.0, omega (arith, here.1))
        | inr later ↦
            let more = found (p + length (line_of r) + 1) rs id q later.1 in
            (r ∷ more.0, more.1, more.2, ap (λ (xs : List R). r ∷ xs) more.3, more.4, omega (arith, more.5, length-one (line_of r) (map line_of more.0)))
      ]

  -- where nothing is found no record has the id
  pub none_found : (p : ℕ) (rs : List R) (id : EventId) (x : R) → first_place line_of id_of p rs id ≡ None → Contains rs x → id_of x ≡ id → ⊥
  none_found p [] id x e (k, below, is) same = absurd (omega arith)
  none_found p (r ∷ rs) id x e among same =
      let none = none_by_test (is_at (id_of r) id) p (first_place line_of id_of (p + length (line_of r) + 1) rs id) e in
      elim (Contains-append_cases (r ∷ []) rs x among) [
        | inl here ↦
            let at : is_at (id_of r) id ≡ true = subst (λ (i : EventId). is_at (id_of r) i ≡ true) (ap id_of (one_of r x here) ∙ same) (at_itself (id_of r)) in
            absurd cc
        | inr later ↦ none_found (p + length (line_of r) + 1) rs id x none.1 later same
      ]

  pub pushed : (p : ℕ) (rs : List R) (r : R) (id : EventId) → first_place line_of id_of p (rs ++ r ∷ []) id ≡ option_or (first_place line_of id_of p rs id) (if is_at (id_of r) id then Some (p + length (whole (map line_of rs))) else None)
  pushed p [] r id = let here : p ≡ p + 0 = omega arith in ap (λ (n : ℕ). if is_at (id_of r) id then Some n else None) here
  pushed p (x ∷ xs) r id =
      let there : p + length (line_of x) + 1 + length (whole (map line_of xs)) ≡ p + length (whole (map line_of (x ∷ xs))) = omega (arith, length-one (line_of x) (map line_of xs)) in
      either_by_test (is_at (id_of x) id) p _ (first_place line_of id_of (p + length (line_of x) + 1) xs id) (if is_at (id_of r) id then Some (p + length (whole (map line_of (x ∷ xs)))) else None)
      (pushed (p + length (line_of x) + 1) xs r id ∙ ap (λ (n : ℕ). option_or (first_place line_of id_of (p + length (line_of x) + 1) xs id) (if is_at (id_of r) id then Some n else None)) there)

  first_stays : (o : Option ℕ) (n : ℕ) (b : Bool) → b ≡ true → Some (unwrap_or o n) ≡ option_or o (if b then Some n else None)
  first_stays o n b e = grind arith

  others_stay : (o : Option ℕ) (n : ℕ) (b : Bool) → b ≡ false → o ≡ option_or o (if b then Some n else None)
  others_stay o n b e = grind arith

  module _ (old new : Places) (rs : List R) (r : R) (id : EventId) (place : ℕ) (is_id : id_of r ≡ id) (at : place ≡ length (whole (map line_of rs))) (kept : place_at new id ≡ Some (unwrap_or (place_at old id) place)) (others : (k : EventId) → is_at id k ≡ false → place_at new k ≡ place_at old k) (keeps : Keeps line_of id_of old rs) where
    each : (k : EventId) → place_at new k ≡ first_place line_of id_of 0 (rs ++ r ∷ []) k
    each k =
        let there : place ≡ 0 + length (whole (map line_of rs)) = omega arith in
        elim (cases_Bool (is_at id k)) [
          | inl same ↦
              let is : id ≡ k = id_same id k same in
              let test : is_at (id_of r) k ≡ true = subst (λ (i : EventId). is_at i k ≡ true) (sym is_id) same in
              ap (place_at new) (sym is) ∙ kept ∙ ap (λ (o : Option ℕ). Some (unwrap_or o place)) (ap (place_at old) is ∙ keeps.each k) ∙ ap (λ (n : ℕ). Some (unwrap_or (first_place line_of id_of 0 rs k) n)) there ∙ first_stays (first_place line_of id_of 0 rs k) (0 + length (whole (map line_of rs))) (is_at (id_of r) k) test ∙ sym (pushed 0 rs r k)
          | inr other ↦
              let test : is_at (id_of r) k ≡ false = subst (λ (i : EventId). is_at i k ≡ false) (sym is_id) other in
              others k other ∙ keeps.each k ∙ others_stay (first_place line_of id_of 0 rs k) (0 + length (whole (map line_of rs))) (is_at (id_of r) k) test ∙ sym (pushed 0 rs r k)
        ]

    -- one line more
    pub keeps_push : Keeps line_of id_of new (rs ++ r ∷ [])
    keeps_push = record { each = each }
