-- A list that is split at the first of a byte.
use Rattle.std.proofs.Common.{◌≡◌, ℕ, ◌+◌, ◌-◌, ◌≤◌, Bool, true, false, cond, Option, Some, None, Contains, append_assoc, get_or, ltb, eqb, List, [], ◌∷◌, ◌++◌, length, take, drop, refl, sym, ap, ◌∙◌, subst, arith}
use Rattle.std.specs.List.{position, position_or_len, before_first, after_first}
use Rattle.std.proofs.lemmas.Bool.{lt-ltb, ltb-true, ltb-false, eqb-true}
use Rattle.std.proofs.lemmas.List.Sums.{fails_before_first, position_or_len_is}
use Rattle.std.proofs.lemmas.List.Quantifiers.{position-Some}
use Rattle.std.proofs.lemmas.Bool.Decides.{nat_tests}
use Rattle.std.proofs.lemmas.List.{take_at, drop_at, take_all, drop_more, take-append-drop, length-append, length-drop}
use Rattle.std.proofs.lemmas.Option.{same_Some}
use Rattle.memchr.specs.Find.{IsFirstByte, is_byte}
use Rattle.list_words.specs.Bytes.{Lacks}

fails : (byte x : ℕ) → (eqb x byte ≡ true → ⊥) → eqb x byte ≡ false
fails byte x other = go (eqb x byte) refl
  where
    go : (b : Bool) → eqb x byte ≡ b → b ≡ false
    go true e = absurd (other e)
    go false e = refl

ltb-irrefl : (n : ℕ) → ltb n n ≡ false
ltb-irrefl n = go (ltb n n) refl
  where
    go : (b : Bool) → ltb n n ≡ b → b ≡ false
    go true e = absurd (omega (arith, ltb-true n n e))
    go false e = refl

pub position_at : (byte : ℕ) (front rest : List ℕ) → Lacks byte front → position_or_len (λ b. eqb b byte) (front ++ byte ∷ rest) ≡ length front
position_at byte [] rest h = grind (arith, nat_tests)
position_at byte (x ∷ xs) rest h =
    let more = position_at byte xs rest h.1 in
    let apart = h.0 in
    grind (arith, nat_tests)

-- the place that a search for a byte finds is its first
found_first : (byte : ℕ) (text : List ℕ) (k : ℕ) → IsFirstByte (is_byte byte) text (Some k) → position_or_len (λ b. eqb b byte) text ≡ k
found_first byte text k first =
    position_or_len_is (λ b. eqb b byte) text k 0 (omega (arith, first.0.high)) (λ j lt. fails byte (get_or text j 0) (first.0.before j (omega arith) lt)) (λ lt. first.1)

pub first_is : (byte : ℕ) (text : List ℕ) (r : Option ℕ) → IsFirstByte (is_byte byte) text r → r ≡ position (λ b. eqb b byte) text
first_is byte text None none =
    let end : position_or_len (λ b. eqb b byte) text ≡ length text =
    position_or_len_is (λ b. eqb b byte) text (length text) 0 (omega arith) (λ k lt. fails byte (get_or text k 0) (none k (omega arith) lt)) (λ lt. absurd (omega (arith, lt))) in
    rw (end, ltb-irrefl (length text)) refl
first_is byte text (Some k) first = rw (found_first byte text k first, lt-ltb k (length text) first.0.high) refl

-- what stands before it and behind it
pub cut_there : (byte : ℕ) (text : List ℕ) (r : Option ℕ) (at : ℕ) → IsFirstByte (is_byte byte) text r → r ≡ Some at
    → (take at text ≡ before_first (λ b. eqb b byte) text) × (take (length text - (at + 1)) (drop (at + 1) text) ≡ after_first (λ b. eqb b byte) text)
cut_there byte text r at first is =
    let e = found_first byte text at (subst (IsFirstByte (is_byte byte) text) is first) in
    let all : take (length text - (at + 1)) (drop (at + 1) text) ≡ drop (at + 1) text = take_all _ _ (omega (arith, length-drop (at + 1) text)) in
    (ap (λ k. take k text) (sym e), all ∙ ap (λ k. drop (k + 1) text) (sym e))

-- the first of a byte stands behind what lacks it
pub found_at : (byte : ℕ) (text front rest : List ℕ) → Lacks byte front → text ≡ front ++ byte ∷ rest → position (λ b. eqb b byte) text ≡ Some (length front)
found_at byte text front rest h e =
    let at = position_at byte front rest h in
    let lt : ltb (length front) (length (front ++ byte ∷ rest)) ≡ true = lt-ltb _ _ (omega (arith, length-append front (byte ∷ rest))) in
    rw (e, at, lt) refl

-- the parts of a list before and after its place `at`
pub parts_at : (byte : ℕ) (text front rest : List ℕ) (at : ℕ) → text ≡ front ++ byte ∷ rest → length front ≡ at → (take at text ≡ front) × (take (length text - (at + 1)) (drop (at + 1) text) ≡ rest)
parts_at byte text front rest at e n =
    let regrouped : text ≡ (front ++ byte ∷ []) ++ rest = rw (e, append_assoc) refl in
    let behind : drop (at + 1) text ≡ rest = rw regrouped (drop_at (front ++ byte ∷ []) rest (at + 1) (omega (arith, length-append front (byte ∷ [])))) in
    let long : length rest ≤ length text - (at + 1) = omega (arith, ap length e, length-append front (byte ∷ rest)) in
    (rw e (take_at front (byte ∷ rest) at n), rw behind (take_all (length text - (at + 1)) rest long))

-- a list is its parts, with the byte between them
pub joined_at : (byte : ℕ) (text : List ℕ) (at : ℕ) → position (λ b. eqb b byte) text ≡ Some at → text ≡ take at text ++ byte ∷ take (length text - (at + 1)) (drop (at + 1) text)
joined_at byte text at e =
    let found = position-Some (λ b. eqb b byte) text at 0 e in
    let here : get_or text at 0 ≡ byte = eqb-true _ _ found.1 in
    let all : take (length text - (at + 1)) (drop (at + 1) text) ≡ drop (at + 1) text = take_all _ _ (omega (arith, length-drop (at + 1) text)) in
    rw all (sym (take-append-drop at text) ∙ ap (λ (rest : List ℕ). take at text ++ rest) (drop_more text at 0 found.0 ∙ ap (λ b. b ∷ drop (at + 1) text) here))

-- a list is split at the first of a byte in one way
pub split_same : (byte : ℕ) (front rest front' rest' : List ℕ) → Lacks byte front → Lacks byte front' → front ++ byte ∷ rest ≡ front' ++ byte ∷ rest' → (front ≡ front') × (rest ≡ rest')
split_same byte front rest front' rest' h h' e =
    let here = found_at byte (front ++ byte ∷ rest) front rest h refl in
    let there = found_at byte (front ++ byte ∷ rest) front' rest' h' e in
    let same : length front ≡ length front' = same_Some _ _ (sym here ∙ there) in
    let p = parts_at byte (front ++ byte ∷ rest) front rest (length front) refl refl in
    let q = parts_at byte (front ++ byte ∷ rest) front' rest' (length front) e (sym same) in
    (sym p.0 ∙ q.0, sym p.1 ∙ q.1)

none_tells : (b : Bool) (n : ℕ) → cond b (Some n) None ≡ None → b ≡ false
none_tells true n e = absurd cc
none_tells false n e = refl

-- where no place is found, there is none
pub no_byte : (byte : ℕ) (text : List ℕ) → position (λ b. eqb b byte) text ≡ None → Contains text byte → ⊥
no_byte byte text e h =
    let far : length text ≤ position_or_len (λ b. eqb b byte) text = ltb-false _ _ (none_tells _ _ e) in
    let apart = fails_before_first (λ b. eqb b byte) text h.0 byte (omega (arith, h.1)) in
    let here : get_or text h.0 byte ≡ byte = h.2 in
    grind (arith, nat_tests)

-- what lacks a byte and goes on with it doesn't lack it
pub lacks_none : (byte : ℕ) (front rest : List ℕ) → Lacks byte (front ++ byte ∷ rest) → ⊥
lacks_none byte [] rest h = h.0 refl
lacks_none byte (x ∷ xs) rest h = lacks_none byte xs rest h.1

pub lacks_append : (byte : ℕ) (xs ys : List ℕ) → Lacks byte xs → Lacks byte ys → Lacks byte (xs ++ ys)
lacks_append byte [] ys h k = k
lacks_append byte (x ∷ xs) ys h k = (h.0, lacks_append byte xs ys h.1 k)
