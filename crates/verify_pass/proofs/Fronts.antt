-- The values up to the first slot that has none.
use Rattle.std.proofs.Common.{◌≡◌, ℕ, suc, ◌+◌, ◌||◌, Bool, true, false, List, [], ◌∷◌, ◌++◌, length, Option, Some, None, ⊎_elim, refl, sym, ap, ◌∙◌, subst, arith, length-append, is_some}
use Rattle.verify_pass.proofs.Words.{OnTrue, OnFalse, contains, EventId, id_cmp, Batch, TimedRegistry, Knows, or_else, first_in, first_insert, first_insert-push, Ids, IsAt, IsWhole, HasAt, HasWhole, at_push, AreAt, IsFront}

-- the value of the next slot goes behind them
pub front_push : {V : Type 0} (f : ℕ → Option V) (xs : List V) (v : V) (n : ℕ) → length xs ≡ n → AreAt f xs → f n ≡ Some v → AreAt f (xs ++ v ∷ [])
front_push f xs v n size h e k w at = ⊎_elim (λ there. h k w there) (λ here. ap f (here.0 ∙ size) ∙ e ∙ ap Some here.1) (at_push xs v k w at)

-- there is one such list
pub one_front : {V : Type 0} (f : ℕ → Option V) (xs ys : List V) → IsFront f xs → IsFront f ys → xs ≡ ys
one_front f [] [] h k = refl
one_front {V} f [] (y ∷ ys) h k = absurd (differ (sym h.longest ∙ k.each 0 y refl))
  where
    differ : None ≡ Some y → ⊥
    differ e = cc
one_front {V} f (x ∷ xs) [] h k = absurd (differ (sym k.longest ∙ h.each 0 x refl))
  where
    differ : None ≡ Some x → ⊥
    differ e = cc
one_front {V} f (x ∷ xs) (y ∷ ys) h k =
    let rest = one_front (λ n. f (suc n)) xs ys (record { each = λ n v e. h.each (suc n) v e; longest = h.longest }) (record { each = λ n v e. k.each (suc n) v e; longest = k.longest }) in
    λ i. same (sym (h.each 0 x refl) ∙ k.each 0 y refl) i ∷ rest i
  where
    same : Some x ≡ Some y → x ≡ y
    same e = cc

-- ---- registries

pub at_start : (f : ℕ → Option Batch) (state : TimedRegistry) → Knows state [] → IsAt f 0 state
at_start f state k = grind arith

more : (xs : List Batch) (v : Batch) (n : ℕ) → length xs ≡ n → length (xs ++ v ∷ []) ≡ n + 1
more xs v n e = omega (arith, length-append xs (v ∷ []), e)

pub at_next : (f : ℕ → Option Batch) (n : ℕ) (old mid new : TimedRegistry) (v : Batch) → f n ≡ Some v → ((applied : List Batch) → Knows old applied → Knows mid applied) → ((applied : List Batch) → Knows mid applied → Knows new (applied ++ v ∷ [])) → IsAt f n old → IsAt f (n + 1) new
at_next f n old mid new v e k l h = record {
  applied = h.applied ++ v ∷ [];
  count = more h.applied v n h.count;
  each = front_push f h.applied v n h.count h.each e;
  known = l h.applied (k h.applied h.known);
}

pub whole : (f : ℕ → Option Batch) (n : ℕ) (state : TimedRegistry) → f n ≡ None → IsAt f n state → IsWhole f state
whole f n state e h applied front = subst (λ (vs : List Batch). Knows state vs) (one_front f h.applied applied (record { each = h.each; longest = ap f h.count ∙ e }) front) h.known

-- ---- ids

pub has_start : (f : ℕ → Option Batch) (ids : Ids) → HasAt f 0 ids ids
has_start f ids = grind arith

either : {A : Type 0} (t : Bool) (a b : Option A) → ((t || is_some a) || is_some b) ≡ (t || is_some (or_else a b))
either t a b = grind arith

pub has_next : (f : ℕ → Option Batch) (n : ℕ) (first old new : Ids) (v : Batch) → f n ≡ Some v → ((i : EventId) → contains id_cmp new i ≡ (contains id_cmp old i || is_some (first_in v.inserts i))) → HasAt f n first old → HasAt f (n + 1) first new
has_next f n first old new v e k h = record {
  applied = h.applied ++ v ∷ [];
  count = more h.applied v n h.count;
  each = front_push f h.applied v n h.count h.each e;
  known = λ i. k i ∙ ap (λ t. t || is_some (first_in v.inserts i)) (h.known i) ∙ either (contains id_cmp first i) (first_insert h.applied i) (first_in v.inserts i) ∙ ap (λ o. contains id_cmp first i || is_some o) (sym (first_insert-push h.applied v i));
}

pub has_whole : (f : ℕ → Option Batch) (n : ℕ) (first ids : Ids) → f n ≡ None → HasAt f n first ids → HasWhole f first ids
has_whole f n first ids e h applied front = subst (λ (vs : List Batch). (i : EventId) → contains id_cmp ids i ≡ (contains id_cmp first i || is_some (first_insert vs i))) (one_front f h.applied applied (record { each = h.each; longest = ap f h.count ∙ e }) front) h.known

-- ---- the last slot

pub ended : (f : ℕ → Option Batch) (n : ℕ) (old new : TimedRegistry) (m : Bool) → OnTrue m (IsAt f n old → IsAt f (n + 1) new) → OnFalse m (IsAt f n old → IsWhole f new) → f (n + 1) ≡ None → IsAt f n old → IsWhole f new
ended f n old new m next stop e h = grind (arith, whole)

pub has_ended : (f : ℕ → Option Batch) (n : ℕ) (first old new : Ids) (m : Bool) → OnTrue m ((first : Ids) → HasAt f n first old → HasAt f (n + 1) first new) → OnFalse m ((first : Ids) → HasAt f n first old → HasWhole f first new) → f (n + 1) ≡ None → HasAt f n first old → HasWhole f first new
has_ended f n first old new true next stop e h = has_whole f (n + 1) first new e (next first h)
has_ended f n first old new false next stop e h = stop first h

pub either_way : (new old more : Bool) → new ≡ (old || more) → old ≡ true → new ≡ true
either_way new old more e h = grind arith
