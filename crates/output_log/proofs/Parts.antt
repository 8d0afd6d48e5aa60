-- The fields of a pair behind one another.
use Rattle.std.proofs.Common.{◌≡◌, List, [], ◌∷◌, ◌++◌, drop, ℕ, true, false, ◌==◌, length, refl, sym, ap, ◌∙◌, append-nil, arith}
use Rattle.packet_codec.specs.Bad.{Spelled, Followed}
use Rattle.packet_codec.specs.Stops.{IsBadBefore}
use Rattle.std.proofs.lemmas.Bool.Decides.{nat_tests}
use Rattle.std.proofs.lemmas.List.{append_cancel_left}
use Rattle.turn_defs.specs.declared.pair.PairRec.{PairRec}
use Rattle.log_records.specs.Line.{IsClick, IsQuery}
use Rattle.turn_defs.specs.Spellings.{click, query, token, IsPair, IsToken}
use Rattle.output_log.specs.Pairs.{pair_of, fields_of, record_of}

-- the fields, and what stands behind them
abbrev pub before : PairRec → List ℕ → List ℕ
before p rest = click p.click ++ (query p.query ++ (token p.token ++ rest))

pub none_behind : (p : PairRec) → before p [] ≡ fields_of p
none_behind p = ap (λ (z : List ℕ). click p.click ++ (query p.query ++ z)) (append-nil (token p.token))

abbrev pub IsApart : {V : Type 0} → (V → List ℕ) → (V → Type 0) → Type 0
IsApart {V} spell Is = (v w : V) (s t : List ℕ) → Is v → Is w → spell v ++ s ≡ spell w ++ t → v ≡ w

-- what stands behind a value that is the same
behind : {V : Type 0} (spell : V → List ℕ) (v w : V) (s t : List ℕ) → v ≡ w → spell v ++ s ≡ spell w ++ t → s ≡ t
behind spell v w s t same e = append_cancel_left (spell v) s t (e ∙ ap (λ x. spell x ++ t) (sym same))

apart : IsApart click IsClick → IsApart query IsQuery → IsApart token IsToken → (p q : PairRec) (s t : List ℕ) → IsPair p → IsPair q → before p s ≡ before q t → (p ≡ q) × (s ≡ t)
apart one two three p q s t is_p is_q e =
    let same : p.click ≡ q.click = one p.click q.click _ _ is_p.click is_q.click e in
    let rest = behind click p.click q.click (query p.query ++ (token p.token ++ s)) (query q.query ++ (token q.token ++ t)) same e in
    let same_2 : p.query ≡ q.query = two p.query q.query _ _ is_p.query is_q.query rest in
    let rest_2 = behind query p.query q.query (token p.token ++ s) (token q.token ++ t) same_2 rest in
    let under : p.token ≡ q.token = three p.token q.token s t is_p.token is_q.token rest_2 in (
      ap (λ x. pair_of x p.query p.token) same ∙ ap (λ x. pair_of q.click x p.token) same_2 ∙ ap (λ x. pair_of q.click q.query x) under,
      behind token p.token q.token s t under rest_2,
    )

-- a record whose fields were read is that of one pair alone
pub one_pair : IsApart click IsClick → IsApart query IsQuery → IsApart token IsToken → (p q : PairRec) (tag : ℕ) (payload fields rest : List ℕ) → IsPair p → IsPair q
    → payload ≡ tag ∷ fields → fields ≡ before p rest → payload ≡ record_of q → (p ≡ q) × (rest ≡ [])
one_pair one two three p q tag payload fields rest is_p is_q split found e = apart one two three p q rest [] is_p is_q (sym found ∙ ap (drop 1) (sym split ∙ e) ∙ sym (none_behind q))

pub whole_pair : (p : PairRec) (tag : ℕ) (payload fields rest : List ℕ) → payload ≡ tag ∷ fields → tag ≡ 6 → fields ≡ before p rest → true ≡ (length rest == 0) → payload ≡ record_of p
whole_pair p tag payload fields [] split six found none = split ∙ ap (λ (b : ℕ). b ∷ fields) six ∙ ap (λ (z : List ℕ). 6 ∷ z) (found ∙ none_behind p)
whole_pair p tag payload fields (x ∷ rest) split six found none = grind (arith, nat_tests)

-- bytes that no fields begin are no pair's
pub bad_other : (fields : List ℕ) (left : ℕ) → IsBadBefore (Followed click IsClick (Followed query IsQuery (Spelled token IsToken))) fields left → (p : PairRec) → IsPair p → fields ≡ fields_of p → ⊥
bad_other fields left b p is e =
    let behind_click : Followed query IsQuery (Spelled token IsToken) (query p.query ++ token p.token) = record { value = p.query; is = is.query; back = token p.token; next = (p.token, is.token, refl); whole = refl } in
    b.bad.none (fields_of p) [] (record { value = p.click; is = is.click; back = query p.query ++ token p.token; next = behind_click; whole = refl }) (e ∙ sym (append-nil (fields_of p)))

pub not_empty : (l : List ℕ) → false ≡ (length l == 0) → l ≡ [] → ⊥
not_empty l full none = let e : false ≡ true = full ∙ ap (λ (z : List ℕ). length z == 0) none in (cc)
