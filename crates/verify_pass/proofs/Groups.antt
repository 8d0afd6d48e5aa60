-- What is picked of a place's group is what is chosen there.
use Rattle.std.proofs.Common.{◌≡◌, ℕ, zero, suc, ◌+◌, ◌*◌, ◌<◌, ◌≤◌, ◌==◌, List, [], ◌∷◌, ◌++◌, length, get_or, map, Bool, false, cond, ◌&&◌, ◌||◌, nat_lt, Option, Some, refl, sym, ap, ◌∙◌, append_assoc, arith, filter, option_map, unwrap_or, Vec}
use Rattle.verify_pass.proofs.Words.{list_any, lookup, length-map, map-append, append-nil, map-map, list_any-append, nat_tests, Ballot, marked, Place, Note, is_place, is_acceptance, did_accept, is_chosen, all_accepted, least, lower, chosen, Batch, same_batch, note_view, place_of, ReplicaNote, Promised, Accepted, Acceptance, value_of, cast_of, did_replica, marks, is_most, accepts, casts, casts_from, batch_in, items_of}

abbrev Value : Type 0
Value = Ballot × Batch

abbrev view : List (List ReplicaNote) → List (List (Note Batch))
view js = map (map note_view) js

-- ---- which replicas accepted

-- an acceptance that is replica q's
abbrev is_own : ℕ → Value → ℕ × Value → Bool
is_own q a x = (x.0 == q) && is_acceptance same_batch a x.1

any_map : {A B : Type 0} (f : B → Bool) (g : A → B) (xs : List A) → list_any (λ x. f (g x)) xs ≡ list_any f (map g xs)
any_map f g [] = refl
any_map f g (x ∷ xs) = ap (λ t. f (g x) || t) (any_map f g xs)

apart : (q n : ℕ) → q < n → (n == q) ≡ false
apart q n lt = grind (arith, nat_tests)

-- those of one replica
any_own : (r : ℕ) (a : Value) (xs : List Value) → list_any (is_own r a) (map (λ x. (r, x)) xs) ≡ list_any (is_acceptance same_batch a) xs
any_own r a [] = refl
any_own r a (x ∷ xs) = grind (arith, any_own r a xs)

any_others : (r q : ℕ) (a : Value) (xs : List Value) → (r == q) ≡ false → list_any (is_own q a) (map (λ x. (r, x)) xs) ≡ false
any_others r q a [] e = refl
any_others r q a (x ∷ xs) e = λ i. ((e i) && is_acceptance same_batch a x) || any_others r q a xs e i

-- none of the replicas behind q is q
none_behind : (a : Value) (p : Place) (js : List (List ReplicaNote)) (r q : ℕ) → q < r → list_any (is_own q a) (casts_from r js p) ≡ false
none_behind a p [] r q lt = refl
none_behind a p (notes ∷ js) r q lt =
    list_any-append (is_own q a) (casts r notes p) (casts_from (suc r) js p)
    ∙ (λ i. any_others r q a (accepts notes p) (apart q r lt) i || none_behind a p js (suc r) q (omega (arith, lt)) i)

or_false : (t : Bool) → (t || false) ≡ t
or_false t = grind arith

any_at : (a : Value) (p : Place) (js : List (List ReplicaNote)) (r k : ℕ) → list_any (is_own (r + k) a) (casts_from r js p) ≡ list_any (is_acceptance same_batch a) (accepts (get_or js k []) p)
any_at a p [] r k = refl
any_at a p (notes ∷ js) r zero =
    let here : r + zero ≡ r = omega arith in
    ap (λ (q : ℕ). list_any (is_own q a) (casts_from r (notes ∷ js) p)) here
    ∙ list_any-append (is_own r a) (casts r notes p) (casts_from (suc r) js p)
    ∙ (λ i. any_own r a (accepts notes p) i || none_behind a p js (suc r) r (omega arith) i)
    ∙ or_false (list_any (is_acceptance same_batch a) (accepts notes p))
any_at a p (notes ∷ js) r (suc k) =
    let there : r + suc k ≡ suc r + k = omega arith in
    let less : r < suc r + k = omega arith in
    ap (λ (q : ℕ). list_any (is_own q a) (casts_from r (notes ∷ js) p)) there
    ∙ list_any-append (is_own (suc r + k) a) (casts r notes p) (casts_from (suc r) js p)
    ∙ ap (λ (t : Bool). t || list_any (is_own (suc r + k) a) (casts_from (suc r) js p)) (any_others r (suc r + k) a (accepts notes p) (differ r (suc r + k) less))
    ∙ any_at a p js (suc r) k
  where
    differ : (n q : ℕ) → n < q → (n == q) ≡ false
    differ n q lt = grind (arith, nat_tests)

marks_are : {A : Type 0} (f : A → Bool) (g : ℕ → Bool) (d : A) (xs : List A) → ((k : ℕ) → g k ≡ f (get_or xs k d)) → marks g (length xs) ≡ map f xs
marks_are f g d [] h = refl
marks_are f g d (x ∷ xs) h = λ i. h 0 i ∷ marks_are f (λ k. g (suc k)) d xs (λ k. h (suc k)) i

module _ (js : List (List ReplicaNote)) (p : Place) (group : List Acceptance) (is : map cast_of group ≡ casts_from 0 js p) where
  did_is : (a : Value) (r : ℕ) → did_replica group a r ≡ did_accept same_batch p a (map note_view (get_or js r []))
  did_is a r =
      let here : r ≡ 0 + r = omega arith in
      any_map (is_own r a) cast_of group ∙ ap (list_any (is_own r a)) is ∙ ap (λ (q : ℕ). list_any (is_own q a) (casts_from 0 js p)) here ∙ any_at a p js 0 r

  most_is : (a : Value) → is_most (length js) group a ≡ is_chosen same_batch (view js) p a
  most_is a =
      let f : List (Note Batch) → Bool = did_accept same_batch p a in
      let same : marks (did_replica group a) (length js) ≡ map f (view js) = marks_are (λ notes. f (map note_view notes)) (did_replica group a) [] js (did_is a) ∙ sym (map-map f (map note_view) js) in
      λ i. nat_lt (sym (length-map js (map note_view)) i) (2 * marked (same i))

  -- ---- what was accepted

  seconds : (r : ℕ) (xs : List Value) → map (λ (x : ℕ × Value). x.1) (map (λ x. (r, x)) xs) ≡ xs
  seconds r [] = refl
  seconds r (x ∷ xs) = ap (λ ys. x ∷ ys) (seconds r xs)

  values_from : (r : ℕ) (ns : List (List ReplicaNote)) → map (λ (x : ℕ × Value). x.1) (casts_from r ns p) ≡ all_accepted (view ns) p
  values_from r [] = refl
  values_from r (notes ∷ ns) = map-append (λ (x : ℕ × Value). x.1) (casts r notes p) (casts_from (suc r) ns p) ∙ (λ i. seconds r (accepts notes p) i ++ values_from (suc r) ns i)

  values_are : map value_of group ≡ all_accepted (view js) p
  values_are = sym (map-map (λ (x : ℕ × Value). x.1) cast_of group) ∙ ap (map (λ (x : ℕ × Value). x.1)) is ∙ values_from 0 js

  pub picked_is : batch_in (length js) group ≡ chosen same_batch (view js) p
  picked_is = λ i. option_map (λ (a : Value). a.1) (least same_batch (filter (λ a. most_is a i) (values_are i)))

-- ---- one note more, and one replica's notes more

accepts_push : (notes : List ReplicaNote) (note : ReplicaNote) (p : Place) → accepts (notes ++ note ∷ []) p ≡ accepts notes p ++ accepts (note ∷ []) p
accepts_push [] note p = refl
accepts_push (first ∷ notes) note p = grind (arith, accepts_push notes note p)

pub notes_push : (r : ℕ) (notes : List ReplicaNote) (note : ReplicaNote) (p : Place) → casts r (notes ++ note ∷ []) p ≡ casts r notes p ++ casts r (note ∷ []) p
notes_push r notes note p = ap (map (λ a. (r, a))) (accepts_push notes note p) ∙ map-append (λ a. (r, a)) (accepts notes p) (accepts (note ∷ []) p)

pub casts_push : (r : ℕ) (js : List (List ReplicaNote)) (notes : List ReplicaNote) (p : Place) → casts_from r (js ++ notes ∷ []) p ≡ casts_from r js p ++ casts (r + length js) notes p
casts_push r [] notes p = let here : r ≡ r + 0 = omega arith in append-nil (casts r notes p) ∙ ap (λ (q : ℕ). casts q notes p) here
casts_push r (first ∷ js) notes p = grind (arith, append_assoc, casts_push (suc r) js notes p)

-- a promise is no acceptance
pub promised_none : (r shard slot : ℕ) (b : Ballot) (p : Place) → casts r (Promised shard slot b ∷ []) p ≡ []
promised_none r shard slot b p = grind arith

pub accepted_one : (r shard slot : ℕ) (b : Ballot) (v : Batch) (p : Place) → casts r (Accepted shard slot b v ∷ []) p ≡ cond (is_place (place_of shard slot) p) ((r, (b, v)) ∷ []) []
accepted_one r shard slot b v p = grind arith

-- the group with an acceptance more, if it is of this place
pub group_push : (old : List Acceptance) (x : Acceptance) (t : Bool) → map cast_of (old ++ cond t (x ∷ []) []) ≡ map cast_of old ++ cond t (cast_of x ∷ []) []
group_push old x t = grind (arith, map-append)

-- ---- going through a group from its end

-- one acceptance more in front
pub least_next : (f : Value → Bool) (x : Value) (xs : List Value) (o new : Option Value) → o ≡ least same_batch (filter f xs) → new ≡ cond (f x) (lower same_batch x o) o → new ≡ least same_batch (filter f (x ∷ xs))
least_next f x xs o new e k = grind arith

-- ---- an acceptance more in a map of groups

pub joined : {Z : Type 0} (was held : List (Place × Vec Acceptance Z)) (place : Place) (before : List Acceptance) (v : Vec Acceptance Z) (x : Acceptance) → before ≡ items_of (lookup (is_place place) was) → v.items ≡ before ++ x ∷ [] → ((p : Place) → lookup (is_place p) held ≡ cond (is_place place p) (Some v) (lookup (is_place p) was)) → (p : Place) → items_of (lookup (is_place p) held) ≡ items_of (lookup (is_place p) was) ++ cond (is_place place p) (x ∷ []) []
joined {Z} was held place before v x old new f p = grind (arith, append-nil)

-- the group of an entry, or a new one
pub found : {Z : Type 0} (o : Option (Vec Acceptance Z)) (new v : Vec Acceptance Z) → v ≡ unwrap_or o new → new.items ≡ [] → v.items ≡ items_of o
found {Z} o new v e none = grind arith

-- the greatest slot stays an end
pub ends_keep : (was now : Place → List Acceptance) (last most : ℕ) (q : Place) (x : Acceptance) → ((p : Place) → now p ≡ was p ++ cond (is_place q p) (x ∷ []) []) → last ≤ most → q.slot ≤ most → ((p : Place) → last < p.slot → was p ≡ []) → (p : Place) → most < p.slot → now p ≡ []
ends_keep was now last most q x e le here h p lt = grind arith
