-- A kind whose records each spell one thing, kept in a list.
use Rattle.std.proofs.Common.{◌≡◌, ◌⊎◌, inl, inr, ℕ, ◌+◌, Bool, true, false, if◌then◌else◌, List, [], ◌∷◌, ◌++◌, refl, sym, ap, subst, ◌∙◌, Ok, Err}
use Rattle.std.specs.Prelude.{All, map}
use Rattle.std.specs.Result.{result_unwrap_or}
use Rattle.std.proofs.lemmas.List.{map-append}
use Rattle.std.proofs.lemmas.List.Elements.{All-head, All-push, All-tail}
use Rattle.gate_journal.specs.Gate.{spans}
use Rattle.gate_journal.specs.Records.{Read}

first_of_both : (a b : List ℕ) (as_ bs : List (List ℕ)) → a ∷ as_ ≡ b ∷ bs → a ≡ b
first_of_both a b as_ bs e = cc

rest_of_both : (a b : List ℕ) (as_ bs : List (List ℕ)) → a ∷ as_ ≡ b ∷ bs → as_ ≡ bs
rest_of_both a b as_ bs e = cc

abbrev read_of : List (List ℕ) → Read
read_of records = Ok records

abbrev damage_at : ℕ → Read
damage_at at = Err at

never_both : (records : List (List ℕ)) (at : ℕ) → read_of records ≡ damage_at at → ⊥
never_both records at e = (cc)

module _ {T : Type 0} (IsOne : T → Type 0) (spelled : T → List ℕ) where
  -- what is read is the records of these, in order
  abbrev pub spells : List T → Read → Type 0
  spells xs read = All IsOne xs × (read ≡ Ok (map spelled xs))

  -- this record spells none
  abbrev pub IsOther : List ℕ → Type 0
  IsOther payload = (x : T) → IsOne x → payload ≡ spelled x → ⊥

  -- The first record that spells none has its length at this place. The first record's length stands at place 1.
  pub record IsOtherAt (records : List (List ℕ)) (at : ℕ) : Type 0 where
    pub front : List T
    pub other : List ℕ
    pub rest : List (List ℕ)
    pub are : All IsOne front
    pub is_other : IsOther other
    pub parts : records ≡ map spelled front ++ other ∷ rest
    pub place : at ≡ 1 + spans (map spelled front)

  -- it is damaged at a place by its gates, or else at that of the first record that spells none
  abbrev pub is_damaged_at : Read → ℕ → Type 0
  is_damaged_at read at = (read ≡ Err at) ⊎ ((records : List (List ℕ)) × (read ≡ Ok records) × IsOtherAt records at)

  pub payloads : (xs : List T) (ps : List (List ℕ)) → spells xs (Ok ps) → ps ≡ map spelled xs
  payloads xs ps kept = ap (λ (r : Read). result_unwrap_or r []) kept.1

  pub comes_next : (xs : List T) (x : T) (ps : List (List ℕ)) → IsOne x → spells xs (Ok ps) → spells (xs ++ x ∷ []) (Ok (ps ++ spelled x ∷ []))
  comes_next xs x ps is kept = (
    All-push IsOne xs x kept.0 is,
    ap (λ (l : List (List ℕ)). Ok (l ++ spelled x ∷ [])) (payloads xs ps kept) ∙ ap (λ (l : List (List ℕ)). Ok l) (sym (map-append spelled xs (x ∷ []))),
  )

  -- whether or not there was memory for one more
  pub all_pushed : (xs ys : List T) (x : T) (ok : Bool) → All IsOne xs → IsOne x → ys ≡ (if ok then xs ++ x ∷ [] else xs) → All IsOne ys
  all_pushed xs ys x true all is e = subst (All IsOne) (sym e) (All-push IsOne xs x all is)
  all_pushed xs ys x false all is e = subst (All IsOne) (sym e) all

  pub comes_as : (xs ys : List T) (x : T) (ps : List (List ℕ)) (payload : List ℕ) → IsOne x → payload ≡ spelled x → ys ≡ xs ++ x ∷ [] → spells xs (Ok ps) → spells ys (Ok (ps ++ payload ∷ []))
  comes_as xs ys x ps payload is e same kept = rw (e, same) (comes_next xs x ps is kept)

  -- behind records of such things stands one that spells none
  pub comes_other : (xs : List T) (ps rest : List (List ℕ)) (payload : List ℕ) → IsOther payload → spells xs (Ok ps) → is_damaged_at (Ok (ps ++ payload ∷ rest)) (1 + spans ps)
  comes_other xs ps rest payload other kept =
      let are : ps ≡ map spelled xs = payloads xs ps kept in
      inr (
        ps ++ payload ∷ rest,
        refl,
        record {
          front = xs;
          other = payload;
          rest = rest;
          are = kept.0;
          is_other = other;
          parts = ap (λ (l : List (List ℕ)). l ++ payload ∷ rest) are;
          place = ap (λ (l : List (List ℕ)). 1 + spans l) are;
        },
      )

  none_other : (xs ys : List T) (other : List ℕ) (rest : List (List ℕ)) → All IsOne xs → IsOther other → map spelled xs ≡ map spelled ys ++ other ∷ rest → ⊥
  none_other [] [] other rest all is e = absurd (cc e)
  none_other [] (y ∷ ys) other rest all is e = absurd (cc e)
  none_other (x ∷ xs) [] other rest all is e = is x (All-head IsOne x xs all) (sym (first_of_both (spelled x) other (map spelled xs) rest e))
  none_other (x ∷ xs) (y ∷ ys) other rest all is e = none_other xs ys other rest (All-tail IsOne x xs all) is (rest_of_both (spelled x) (spelled y) (map spelled xs) (map spelled ys ++ other ∷ rest) e)

  -- what is read as records of such things isn't damaged
  pub never_damaged : (xs : List T) (read : Read) (at : ℕ) → spells xs read → is_damaged_at read at → ⊥
  never_damaged xs read at kept (inl bad) = never_both (map spelled xs) at (sym kept.1 ∙ bad)
  never_damaged xs read at kept (inr (records, is, bad)) = none_other xs bad.front bad.other bad.rest kept.0 bad.is_other (ap (λ (r : Read). result_unwrap_or r []) (sym kept.1 ∙ is) ∙ bad.parts)
