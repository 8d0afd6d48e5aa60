-- Numbered inserts: one more, and those of an id taken out or put together.
use Rattle.std.proofs.Common.{◌≡◌, ℕ, suc, ◌<◌, ◌≤◌, ◌||◌, Bool, true, false, not, cond, List, [], ◌∷◌, ◌++◌, filter, take, ◌+◌, refl, sym, ap, ◌∙◌, arith}
use Rattle.batch_queue.proofs.Words.{nat_cmp, match_ordering, is_eq, Ordering, Equal, Greater, nat_cmp_is, values_of, remove_entry, insert_entry, is_at, list_any, append_assoc, EventId, same_id, Insert, IsNumbered, with_id, without, with_all}

equal : (n : ℕ) → nat_cmp n n ≡ Equal
equal n = sym (nat_cmp_is n n Equal refl)

-- ---- the numbers

low_le : (low next : ℕ) (es : List (ℕ × Insert)) → IsNumbered low next es → low ≤ next
low_le low next [] h = h
low_le low next (e ∷ es) h = let k = h.0 in let r = low_le (suc e.0) next es h.1 in omega arith

-- they rise from lower on too
weaken : (low lower next : ℕ) (es : List (ℕ × Insert)) → lower ≤ low → IsNumbered low next es → IsNumbered lower next es
weaken low lower next [] le h = omega arith
weaken low lower next (e ∷ es) le h = (let k = h.0 in omega arith, h.1)

pub filtered : (p : ℕ × Insert → Bool) (low next : ℕ) (es : List (ℕ × Insert)) → IsNumbered low next es → IsNumbered low next (filter p es)
filtered p low next [] h = h
filtered p low next (e ∷ es) h = grind (arith, weaken, filtered p (suc e.0) next es h.1)

pub pushed : (low next : ℕ) (es : List (ℕ × Insert)) (x : Insert) → IsNumbered low next es → IsNumbered low (suc next) (es ++ (next, x) ∷ [])
pushed low next [] x h = (h, omega arith)
pushed low next (e ∷ es) x h = (h.0, pushed (suc e.0) next es x h.1)

-- ---- one more, last

pub insert_last : (low next : ℕ) (es : List (ℕ × Insert)) (x : Insert) → IsNumbered low next es → insert_entry nat_cmp es next x ≡ es ++ (next, x) ∷ []
insert_last low next [] x h = refl
insert_last low next (e ∷ es) x h = grind (arith, low_le, insert_last (suc e.0) next es x h.1)

-- and taken out again
pub remove_last : (low next : ℕ) (es : List (ℕ × Insert)) (x : Insert) → IsNumbered low next es → remove_entry (is_at (nat_cmp next)) (es ++ (next, x) ∷ []) ≡ es
remove_last low next [] x h = ap (λ (o : Ordering). cond (is_eq o) [] ((next, x) ∷ [])) (equal next)
remove_last low next (e ∷ es) x h = grind (arith, low_le, remove_last (suc e.0) next es x h.1)

-- ---- those that pass a test, taken out

greater : (m n : ℕ) → n < m → nat_cmp m n ≡ Greater
greater m n lt = sym (nat_cmp_is m n Greater lt)

without_first : (e : ℕ × Insert) (es gone : List (ℕ × Insert)) (next : ℕ) → IsNumbered (suc e.0) next gone → without gone (e ∷ es) ≡ e ∷ without gone es
without_first e es [] next h = refl
without_first e es (g ∷ gone) next h =
    let later = greater g.0 e.0 (let k = h.0 in omega arith) in
    ap (λ (o : Ordering). without gone (cond (is_eq o) es (e ∷ remove_entry (is_at (nat_cmp g.0)) es))) later
    ∙ without_first e (remove_entry (is_at (nat_cmp g.0)) es) gone next (weaken (suc g.0) (suc e.0) next gone (let k = h.0 in omega arith) h.1)

pub without_filter : (p : ℕ × Insert → Bool) (low next : ℕ) (es : List (ℕ × Insert)) → IsNumbered low next es → without (filter p es) es ≡ filter (λ e. not (p e)) es
without_filter p low next [] h = refl
without_filter p low next (e ∷ es) h = go (p e) (without_filter p (suc e.0) next es h.1)
  where
    go : (b : Bool) → without (filter p es) es ≡ filter (λ e. not (p e)) es
        → without (cond b (e ∷ filter p es) (filter p es)) (e ∷ es) ≡ cond (not b) (e ∷ filter (λ e. not (p e)) es) (filter (λ e. not (p e)) es)
    go true r = ap (λ (o : Ordering). without (filter p es) (cond (is_eq o) es (e ∷ remove_entry (is_at (nat_cmp e.0)) es))) (equal e.0) ∙ r
    go false r = without_first e es (filter p es) next (filtered p (suc e.0) next es h.1) ∙ ap (λ (xs : List (ℕ × Insert)). e ∷ xs) r

-- ---- those that pass one of two tests, put together

all_first : (e : ℕ × Insert) (es more : List (ℕ × Insert)) (next : ℕ) → IsNumbered (suc e.0) next more → with_all more (e ∷ es) ≡ e ∷ with_all more es
all_first e es [] next h = refl
all_first e es (g ∷ more) next h =
    let later = greater g.0 e.0 (let k = h.0 in omega arith) in
    ap (λ (o : Ordering). with_all more (match_ordering o (g ∷ e ∷ es) ((e.0, g.1) ∷ es) (e ∷ insert_entry nat_cmp es g.0 g.1))) later
    ∙ all_first e (insert_entry nat_cmp es g.0 g.1) more next (weaken (suc g.0) (suc e.0) next more (let k = h.0 in omega arith) h.1)

insert_first : (e : ℕ × Insert) (es : List (ℕ × Insert)) (next : ℕ) → IsNumbered (suc e.0) next es → insert_entry nat_cmp es e.0 e.1 ≡ e ∷ es
insert_first e [] next h = refl
insert_first e (g ∷ es) next h = grind arith

insert_same : (e : ℕ × Insert) (es : List (ℕ × Insert)) → insert_entry nat_cmp (e ∷ es) e.0 e.1 ≡ e ∷ es
insert_same e es = ap (λ (o : Ordering). match_ordering o (e ∷ e ∷ es) (e ∷ es) (e ∷ insert_entry nat_cmp es e.0 e.1)) (equal e.0)

all_filter : (p q : ℕ × Insert → Bool) (low next : ℕ) (es : List (ℕ × Insert)) → IsNumbered low next es → with_all (filter p es) (filter q es) ≡ filter (λ e. p e || q e) es
all_filter p q low next [] h = refl
all_filter p q low next (e ∷ es) h = go (p e) (q e) (all_filter p q (suc e.0) next es h.1)
  where
    later : (r : ℕ × Insert → Bool) → IsNumbered (suc e.0) next (filter r es)
    later r = filtered r (suc e.0) next es h.1

    both : List (ℕ × Insert)
    both = filter (λ e. p e || q e) es

    go : (a b : Bool) → with_all (filter p es) (filter q es) ≡ both → with_all (cond a (e ∷ filter p es) (filter p es)) (cond b (e ∷ filter q es) (filter q es)) ≡ cond (a || b) (e ∷ both) both
    go a b r = grind (arith, insert_same, all_first, later, insert_first)

-- those of ids, put together id by id
abbrev pub picked : List (ℕ × Insert) → List EventId → List (ℕ × Insert) → List (ℕ × Insert)
picked all [] es = es
picked all (i ∷ ids) es = picked all ids (with_all (with_id i all) es)

or_turned : (a b c : Bool) → (a || (b || c)) ≡ ((b || a) || c)
or_turned a b c = grind arith

pub same_id-flip : (i j : EventId) → same_id i j ≡ same_id j i
same_id-flip i j = grind arith

picked_or : (all : List (ℕ × Insert)) (next : ℕ) (ids : List EventId) (q : ℕ × Insert → Bool) → IsNumbered 0 next all → picked all ids (filter q all) ≡ filter (λ e. list_any (same_id e.1.id) ids || q e) all
picked_or all next [] q h = refl
picked_or all next (i ∷ ids) q h =
    ap (picked all ids) (all_filter (λ e. same_id i e.1.id) q 0 next all h) ∙ picked_or all next ids (λ e. same_id i e.1.id || q e) h
    ∙ λ k. filter (λ e. (or_turned (list_any (same_id e.1.id) ids) (same_id i e.1.id) (q e) ∙ ap (λ s. (s || list_any (same_id e.1.id) ids) || q e) (same_id-flip i e.1.id)) k) all

or_none : (b : Bool) → (b || false) ≡ b
or_none b = grind arith

filter_none : (es : List (ℕ × Insert)) → [] ≡ filter (λ e. false) es
filter_none [] = refl
filter_none (e ∷ es) = filter_none es

pub picked_is : (all : List (ℕ × Insert)) (next : ℕ) (ids : List EventId) → IsNumbered 0 next all → picked all ids [] ≡ filter (λ e. list_any (same_id e.1.id) ids) all
picked_is all next ids h =
    ap (picked all ids) (filter_none all) ∙ picked_or all next ids (λ e. false) h ∙ λ k. filter (λ e. or_none (list_any (same_id e.1.id) ids) k) all

-- ---- those of an id

pub with_id-push : (i : EventId) (es : List (ℕ × Insert)) (e : ℕ × Insert) → with_id i (es ++ e ∷ []) ≡ with_id i es ++ with_id i (e ∷ [])
with_id-push i [] e = refl
with_id-push i (x ∷ es) e = grind (arith, with_id-push i es e)

-- where those of one id are gone, none of it is left, and all of each other id
pub with_id-less : (j i : EventId) (es : List (ℕ × Insert)) → with_id i (filter (λ e. not (same_id j e.1.id)) es) ≡ cond (same_id j i) [] (with_id i es)
with_id-less j i [] = grind arith
with_id-less j i (e ∷ es) = grind (arith, with_id-less j i es)

-- where there are none, all are left
pub none_gone : (i : EventId) (es : List (ℕ × Insert)) → [] ≡ with_id i es → filter (λ e. not (same_id i e.1.id)) es ≡ es
none_gone i [] h = refl
none_gone i (e ∷ es) h = grind (arith, none_gone i es)

-- ---- without the numbers

pub values-push : (es : List (ℕ × Insert)) (e : ℕ × Insert) → values_of (es ++ e ∷ []) ≡ values_of es ++ e.1 ∷ []
values-push [] e = refl
values-push (x ∷ es) e = ap (λ (xs : List Insert). x.1 ∷ xs) (values-push es e)

pub values-filter : (p : Insert → Bool) (es : List (ℕ × Insert)) → values_of (filter (λ e. p e.1) es) ≡ filter p (values_of es)
values-filter p [] = refl
values-filter p (e ∷ es) = grind (arith, values-filter p es)

-- one more of the first is copied
pub front_turn : (xs whole : List Insert) (n left : ℕ) (es rest : List (ℕ × Insert)) (e : ℕ × Insert) → es ≡ e ∷ rest → left + 1 ≡ n → xs ++ take n (values_of es) ≡ whole
    → (xs ++ e.1 ∷ []) ++ take left (values_of rest) ≡ whole
front_turn xs whole n left es rest e first count h =
    let more : suc left ≡ n = omega (arith, count) in
    append_assoc xs (e.1 ∷ []) (take left (values_of rest)) ∙ ap (λ k. xs ++ take k (e.1 ∷ values_of rest)) more ∙ ap (λ (l : List (ℕ × Insert)). xs ++ take n (values_of l)) (sym first) ∙ h
