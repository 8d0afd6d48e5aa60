-- The report of clicks whose ids are apart has a line for each of them.
use Rattle.std.proofs.Common.{◌≡◌, ℕ, zero, suc, ◌+◌, ◌<◌, ◌≤◌, Bool, cond, List, [], ◌∷◌, map, refl, sym, ap, subst, ◌∙◌, arith}
use Rattle.std.specs.Prelude.{⊤}
use Rattle.std.specs.List.{AllByRecursion, range_with_len, count_by}
use Rattle.std.specs.declared.cmp.Ordering.{Ordering}
use Rattle.std.specs.declared.cmp.Ordering.TheVariants.{Less, Equal, Greater}
use Rattle.std.specs.FinMap.Entries.{by_order}
use Rattle.std.specs.FinMap as finite
use Rattle.std.proofs.lemmas.List.Sums.{sum_by-cons}
use Rattle.std.proofs.lemmas.List.FromFn.{sum_by-map-range_with_len_more}
use Rattle.event_id.specs.declared.id.EventId.{EventId}
use Rattle.event_id.specs.EventId.{id_cmp}
use Rattle.event_id.proofs.Order.{exact_ids}
use Rattle.log_records.proofs.Distinct.{made, made_nil, made_cons}
use Rattle.log_records.specs.declared.records.ClickRec.{ClickRec}
use Rattle.log_records.specs.Report.{distinct}
use Rattle.bulk_logs.proofs.Valid.{each_made}

-- ids that tie have one timestamp
pub tied_micros : (a b : EventId) → id_cmp a b ≡ Equal → a.micros ≡ b.micros
tied_micros a b h = ap (λ (x : EventId). x.micros) (exact_ids a b h)

-- ---- the map of the clicks by their ids

abbrev Entry : Type 0
Entry = EventId × ClickRec

module _ (P : EventId → Type 0) where
  keys_put : (es : List Entry) (k : EventId) (v : ClickRec) → P k → AllByRecursion (λ (e : Entry). P e.0) es → AllByRecursion (λ (e : Entry). P e.0) (finite.put id_cmp k v es)
  keys_put [] k v p h = (p, tt)
  keys_put (e ∷ es) k v p h = grind (arith, keys_put es k v p h.1)

  keys_made : (cs : List ClickRec) → AllByRecursion (λ (c : ClickRec). P c.id) cs → AllByRecursion (λ (e : Entry). P e.0) (made cs)
  keys_made [] h = subst (AllByRecursion (λ (e : Entry). P e.0)) (sym made_nil) tt
  keys_made (c ∷ cs) h = subst (AllByRecursion (λ (e : Entry). P e.0)) (sym (made_cons c cs)) (keys_put (made cs) c.id c h.0 (keys_made cs h.1))

-- ---- counts

module _ {X : Type 0} (test : X → Bool) where
  count_cons : (x : X) (xs : List X) → count_by test (x ∷ xs) ≡ cond (test x) 1 0 + count_by test xs
  count_cons x xs = sum_by-cons (λ (y : X). cond (test y) 1 0) x xs

count_map : {X Y : Type 0} (test : Y → Bool) (f : X → Y) (xs : List X) → count_by test (map f xs) ≡ count_by (λ x. test (f x)) xs
count_map test f [] = refl
count_map {X} test f (x ∷ xs) = count_cons test (f x) (map f xs) ∙ ap (λ n. cond (test (f x)) 1 0 + n) (count_map test f xs) ∙ sym (count_cons (λ (y : X). test (f y)) x xs)

-- an entry of a new key is one more
count_put : (test : Entry → Bool) (es : List Entry) (k : EventId) (v : ClickRec) → AllByRecursion (λ (e : Entry). id_cmp k e.0 ≡ Equal → ⊥) es → count_by test (finite.put id_cmp k v es) ≡ count_by test ((k, v) ∷ es)
count_put test [] k v h = refl
count_put test (e ∷ es) k v h = go (id_cmp k e.0) h.0 (count_put test es k v h.1)
  where
    go : (o : Ordering) → (o ≡ Equal → ⊥) → count_by test (finite.put id_cmp k v es) ≡ count_by test ((k, v) ∷ es) → count_by test (by_order o ((k, v) ∷ e ∷ es) ((e.0, v) ∷ es) (e ∷ finite.put id_cmp k v es)) ≡ count_by test ((k, v) ∷ e ∷ es)
    go Less new more = refl
    go Equal new more = absurd (new refl)
    go Greater new more = omega (arith, more, count_cons test e (finite.put id_cmp k v es), count_cons test (k, v) (e ∷ es), count_cons test e es, count_cons test (k, v) es)

-- no id stands twice
abbrev pub AreApart : List ClickRec → Type 0
AreApart [] = ⊤
AreApart (c ∷ cs) = AllByRecursion (λ (d : ClickRec). id_cmp c.id d.id ≡ Equal → ⊥) cs × AreApart cs

count_made : (test : Entry → Bool) (cs : List ClickRec) → AreApart cs → count_by test (made cs) ≡ count_by (λ c. test (c.id, c)) cs
count_made test [] h = ap (count_by test) made_nil
count_made test (c ∷ cs) h =
    ap (count_by test) (made_cons c cs) ∙ count_put test (made cs) c.id c (keys_made (λ i. id_cmp c.id i ≡ Equal → ⊥) cs h.0) ∙ count_cons test (c.id, c) (made cs)
    ∙ ap (λ n. cond (test (c.id, c)) 1 0 + n) (count_made test cs h.1) ∙ sym (count_cons (λ (d : ClickRec). test (d.id, d)) c cs)

-- so a count of their lines is one of the clicks
pub count_lines : {L : Type 0} (test : L → Bool) (line : ClickRec → L) (cs : List ClickRec) → AreApart cs → count_by test (map line (distinct cs)) ≡ count_by (λ c. test (line c)) cs
count_lines test line cs h = count_map test line (distinct cs) ∙ count_map (λ c. test (line c)) (λ (e : Entry). e.1) (made cs) ∙ count_made (λ (e : Entry). test (line e.1)) cs h

pub apart_made : (at : ℕ → ClickRec) (a n : ℕ) → ((j k : ℕ) → a ≤ j → j < k → k < a + n → id_cmp (at j).id (at k).id ≡ Equal → ⊥) → AreApart (map at (range_with_len a n))
apart_made at a zero h = tt
apart_made at a (suc n) h = (each_made at (λ (d : ClickRec). id_cmp (at a).id d.id ≡ Equal → ⊥) (a + 1) n (λ k ge lt. h a k (omega arith) (omega arith) (omega arith)), apart_made at (a + 1) n (λ j k ge less lt. h j k (omega arith) less (omega arith)))

-- what is made from places is counted place by place
pub counted : {X : Type 0} (test : X → Bool) (at : ℕ → X) (F : ℕ → ℕ) (n : ℕ) → F 0 ≡ 0 → ((k : ℕ) → k < n → F (k + 1) ≡ F k + cond (test (at k)) 1 0) → count_by test (map at (range_with_len 0 n)) ≡ F n
counted test at F zero none more = sym none
counted {X} test at F (suc n) none more =
    let on : suc n ≡ n + 1 = omega arith in
    ap (λ m. count_by test (map at (range_with_len 0 m))) on ∙ sum_by-map-range_with_len_more (λ (x : X). cond (test x) 1 0) at 0 n n (omega arith) ∙ ap (λ m. m + cond (test (at n)) 1 0) (counted test at F n none (λ k lt. more k (omega arith)))
    ∙ sym (more n (omega arith)) ∙ ap F (sym on)
