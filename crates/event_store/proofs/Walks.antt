-- Lines read one after another, of which there is one way.
use Rattle.std.proofs.Common.{◌≡◌, ℕ, ◌+◌, ◌<◌, ◌≤◌, List, [], ◌∷◌, ◌++◌, length, Option, Some, None, refl, sym, ap, ◌∙◌, subst, arith}
use Rattle.event_store.proofs.Words.{option_or, find-append, filter_map-append, Lacks, split_same, lacks_none, EventId, is_same, QueryRec, query_same, first, line_feed, ReadsAs, ReadsNext, ReadsLines, AreRead, IsAtEnd, records, found}

pub read_same : (line : List ℕ) (r s : Option QueryRec) → ReadsAs line r → ReadsAs line s → r ≡ s
read_same line None None a b = refl
read_same line None (Some q) a b = absurd (a q b.0 b.1)
read_same line (Some q) None a b = absurd (b q a.0 a.1)
read_same line (Some p) (Some q) a b = ap (λ (x : QueryRec). Some x) (query_same p q a.0 b.0 (sym a.1 ∙ b.1))

-- the next line is one
pub next_same : (log : List ℕ) (place e f : ℕ) (r s : Option QueryRec) → ReadsNext log place e r → ReadsNext log place f s → (e ≡ f) × (r ≡ s)
next_same log place e f r s h k = grind (arith, split_same, read_same)

pub next_not_end : (log : List ℕ) (place e : ℕ) (r : Option QueryRec) → ReadsNext log place e r → IsAtEnd log place → ⊥
next_not_end log place e r (line, rest, is, lacks, ends, reads) none = lacks_none line_feed line rest (subst (Lacks line_feed) is none)

pub next_beyond : (log : List ℕ) (place e : ℕ) (r : Option QueryRec) → ReadsNext log place e r → place < e
next_beyond log place e r (line, rest, is, lacks, ends, reads) = omega (arith, ends)

pub walk_beyond : (log : List ℕ) (a b : ℕ) (xs : List (Option QueryRec)) → ReadsLines log a b xs → a + length xs ≤ b
walk_beyond log a b [] walk = omega (arith, walk)
walk_beyond log a b (x ∷ xs) (next, step, walk) = let l = next_beyond log a next x step in let m = walk_beyond log next b xs walk in omega (arith, l, m)

pub walk_done : (log : List ℕ) (a b : ℕ) (xs : List (Option QueryRec)) → ReadsLines log a b xs → b ≤ a → xs ≡ []
walk_done log a b [] walk le = refl
walk_done log a b (x ∷ xs) walk le = absurd (let l = walk_beyond log a b (x ∷ xs) walk in omega (arith, l, le))

pub walk_push : (log : List ℕ) (a b c : ℕ) (xs : List (Option QueryRec)) (r : Option QueryRec) → ReadsLines log a b xs → ReadsNext log b c r → ReadsLines log a c (xs ++ r ∷ [])
walk_push log a b c [] r walk step = (c, subst (λ (n : ℕ). ReadsNext log n c r) walk step, refl)
walk_push log a b c (x ∷ xs) r (next, first, walk) step = (next, first, walk_push log next b c xs r walk step)

-- a walk that goes no less far goes on from where the other ends
pub walk_on : (log : List ℕ) (a s m : ℕ) (xs ys : List (Option QueryRec)) → ReadsLines log a s xs → ReadsLines log a m ys → s ≤ m → (mid : List (Option QueryRec)) × (ys ≡ xs ++ mid) × ReadsLines log s m mid
walk_on log a s m [] ys xw yw le = (ys, refl, subst (λ (n : ℕ). ReadsLines log n m ys) (sym xw) yw)
walk_on log a s m (x ∷ xs) [] xw yw le = absurd (let l = walk_beyond log a s (x ∷ xs) xw in omega (arith, l, le, yw))
walk_on log a s m (x ∷ xs) (y ∷ ys) (n, xn, xw) (n', yn, yw) le =
    let one = next_same log a n n' x y xn yn in
    let on = walk_on log n s m xs ys xw (subst (λ (k : ℕ). ReadsLines log k m ys) (sym one.0) yw) le in
    (on.0, ap (λ (z : Option QueryRec). z ∷ ys) (sym one.1) ∙ ap (λ (zs : List (Option QueryRec)). x ∷ zs) on.1, on.2)

-- the lines up to a place are one list
pub walk_same : (log : List ℕ) (a m : ℕ) (xs ys : List (Option QueryRec)) → ReadsLines log a m xs → ReadsLines log a m ys → xs ≡ ys
walk_same log a m xs ys xw yw = grind (arith, walk_on, walk_done)

-- the line at a place before the end
pub line_at : (log : List ℕ) (place end_ : ℕ) (front lines : List (Option QueryRec)) → AreRead log place front → AreRead log end_ lines → place < end_ → (next : ℕ) × (r : Option QueryRec) × ReadsNext log place next r × ((rest : List (Option QueryRec)) × (lines ≡ front ++ r ∷ rest))
line_at log place end_ front lines fw lw lt = let on = walk_on log 0 place end_ front lines fw lw (omega (arith, lt)) in here on.0 on.1 on.2
  where
    here : (mid : List (Option QueryRec)) → lines ≡ front ++ mid → ReadsLines log place end_ mid → (next : ℕ) × (r : Option QueryRec) × ReadsNext log place next r × ((rest : List (Option QueryRec)) × (lines ≡ front ++ r ∷ rest))
    here [] is walk = absurd (omega (arith, walk, lt))
    here (r ∷ rest) is (next, step, walk) = (next, r, step, (rest, is))

pub found_append : (xs ys : List (Option QueryRec)) (id : EventId) → found (xs ++ ys) id ≡ option_or (found xs id) (found ys id)
found_append xs ys id = ap (λ (qs : List QueryRec). first qs id) (filter_map-append (λ (line : Option QueryRec). line) xs ys) ∙ find-append (λ (q : QueryRec). is_same id q.id) (records xs) (records ys)

pub found_new : (lines : List (Option QueryRec)) (r : Option QueryRec) (id : EventId) → found lines id ≡ None → found (lines ++ r ∷ []) id ≡ found (r ∷ []) id
found_new lines r id none = found_append lines (r ∷ []) id ∙ ap (λ (o : Option QueryRec). option_or o (found (r ∷ []) id)) none
