-- The ids of clicks.
use Rattle.std.proofs.Common.{◌≡◌, ℕ, suc, ◌+◌, ◌-◌, List, [], ◌∷◌, ◌++◌, Bool, true, false, cond, ◌||◌, map, Some, None, is_some, length, get_or, drop, drop-cons, refl, sym, ap, ◌∙◌, subst, arith}
use Rattle.std.specs.FinMap as finite
use Rattle.event_id.proofs.Order.{ids_total, exact_ids}
use Rattle.log_records.proofs.Distinct.{made, made_nil, made_cons}
use Rattle.verify_pass.proofs.Words.{Ordering, Equal, insert_key, is_eq, tied_itself, map-map, EventId, id_cmp, same_id, Insert, or_else, first_in, same_id-true, same_id-false, ClickRec, distinct, in_order}

abbrev Entry : Type 0
Entry = EventId × ClickRec

-- each click stands under its own id
abbrev Own : List Entry → Type 0
Own es = map (λ (e : Entry). e.1.id) es ≡ map (λ (e : Entry). e.0) es

keys_put : (es : List Entry) (k : EventId) (v : ClickRec) → map (λ (e : Entry). e.0) (finite.put id_cmp k v es) ≡ insert_key id_cmp (map (λ (e : Entry). e.0) es) k
keys_put [] k v = refl
keys_put (e ∷ es) k v = grind (arith, keys_put es k v)

own_put : (es : List Entry) (c : ClickRec) → ((e : Entry) → id_cmp c.id e.0 ≡ Equal → c.id ≡ e.0) → Own es → Own (finite.put id_cmp c.id c es)
own_put [] c exact h = refl
own_put (e ∷ es) c exact h = grind (arith, own_put es c exact)

own_made : (cs : List ClickRec) → Own (made cs)
own_made [] = subst Own (sym made_nil) refl
own_made (c ∷ cs) = subst Own (sym (made_cons c cs)) (own_put (made cs) c (λ e is. exact_ids c.id e.0 is) (own_made cs))

abbrev ids_of : List ClickRec → List EventId
ids_of cs = map (λ (c : ClickRec). c.id) (distinct cs)

ids_made : (cs : List ClickRec) → ids_of cs ≡ map (λ (e : Entry). e.1.id) (made cs)
ids_made cs = map-map (λ (c : ClickRec). c.id) (λ (e : Entry). e.1) (made cs)

ids_cons : (c : ClickRec) (cs : List ClickRec) → insert_key id_cmp (ids_of cs) c.id ≡ ids_of (c ∷ cs)
ids_cons c cs =
    ap (λ (l : List EventId). insert_key id_cmp l c.id) (ids_made cs ∙ own_made cs)
    ∙ sym (keys_put (made cs) c.id c)
    ∙ ap (map (λ (e : Entry). e.0)) (sym (made_cons c cs))
    ∙ sym (own_made (c ∷ cs))
    ∙ sym (ids_made (c ∷ cs))

-- the ids of the distinct clicks are those of all clicks, each once
pub distinct_in_order : (cs : List ClickRec) → ids_of cs ≡ in_order (map (λ (c : ClickRec). c.id) cs)
distinct_in_order [] = grind (arith, ids_made, made_nil)
distinct_in_order (c ∷ cs) = sym (ids_cons c cs) ∙ ap (λ (l : List EventId). insert_key id_cmp l c.id) (distinct_in_order cs)

-- ---- ids of inserts

pub tied : (a b : EventId) → same_id a b ≡ is_eq (id_cmp a b)
tied a b = go (same_id a b) refl
  where
    apart : (o : Ordering) → id_cmp a b ≡ o → (a ≡ b → ⊥) → false ≡ is_eq o
    apart o e k = grind arith

    go : (t : Bool) → same_id a b ≡ t → t ≡ is_eq (id_cmp a b)
    go true e = subst (λ (z : EventId). true ≡ is_eq (id_cmp a z)) (same_id-true a b e) (sym (ap is_eq (tied_itself ids_total a)))
    go false e = apart (id_cmp a b) refl (same_id-false a b e)

first_in_push : (xs : List Insert) (x : Insert) (i : EventId) → first_in (xs ++ x ∷ []) i ≡ or_else (first_in xs i) (cond (same_id x.id i) (Some x.token) None)
first_in_push [] x i = refl
first_in_push (y ∷ xs) x i = grind (arith, first_in_push xs x i)

pub add_push : (had old new : Bool) (xs : List Insert) (x : Insert) (i : EventId) → old ≡ (had || is_some (first_in xs i)) → new ≡ cond (is_eq (id_cmp x.id i)) true old → new ≡ (had || is_some (first_in (xs ++ x ∷ []) i))
add_push had old new xs x i e k = grind (arith, first_in_push)

-- ---- from the end

drop_all : {A : Type 0} (xs : List A) → drop (length xs) xs ≡ []
drop_all [] = refl
drop_all (x ∷ xs) = drop_all xs

pub drop_end : {A : Type 0} (xs : List A) → drop (length xs - 0) xs ≡ []
drop_end xs = let same : length xs - 0 ≡ length xs = omega arith in ap (λ (n : ℕ). drop n xs) same ∙ drop_all xs

pub drop_next : {A : Type 0} (xs : List A) (k at : ℕ) (d : A) → at + (k + 1) ≡ length xs → drop (length xs - (k + 1)) xs ≡ get_or xs at d ∷ drop (length xs - k) xs
drop_next xs k at d e =
    let here : length xs - (k + 1) ≡ at = omega (arith, e) in
    let next : suc at ≡ length xs - k = omega (arith, e) in
    ap (λ (n : ℕ). drop n xs) here ∙ drop-cons xs at d (omega (arith, e)) ∙ ap (λ (n : ℕ). get_or xs at d ∷ drop n xs) next
