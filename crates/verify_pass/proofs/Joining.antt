-- Lines of ids that rise, and what one pair more makes of them.
use Rattle.std.proofs.Common.{◌≡◌, ⊎_elim, ◌<◌, ◌≤◌, ℕ, zero, suc, List, [], ◌∷◌, ◌++◌, true, false, map, length, get_or, set, Option, Err, IfSome, Box, box_value, refl, sym, ap, ◌∙◌, subst, arith, filter}
use Rattle.verify_pass.proofs.Words.{AllByRecursion, Batch, EventId, IsBinarySearchResult, IsStrictlySortedBy, Less, Less-from_sorted, Equal, Greater, Ordering, PairRec, ReportLine, TakesIn, cases_lt, first_pair, flat_map, get_or-map, id_cmp, id_of, is_eq, is_missing_by, joined, length-map, line_by, lines_by, map-map, map-set, missing_id, ordering_index, ordering_reverse, same_id, same_id-refl, sorted_head, sorted_tail, tied_back, unboxed}
use Rattle.event_id.proofs.Order.{ids_total}
use Rattle.verify_pass.proofs.Ids.{tied}
use Rattle.verify_pass.proofs.Pushes.{find_append}

-- ---- steps

-- ---- the id of a line

has_id : (ps : List PairRec) (i : EventId) → IfSome (first_pair ps i) (λ p. p.click.id ≡ i)
has_id [] i = tt
has_id (p ∷ ps) i = grind (arith, has_id ps i)

line_id : (applied : List Batch) (ps : List PairRec) (i : EventId) → id_of (line_by applied i (first_pair ps i)) ≡ i
line_id applied ps i = go (first_pair ps i) (has_id ps i)
  where
    go : (o : Option PairRec) → IfSome o (λ p. p.click.id ≡ i) → id_of (line_by applied i o) ≡ i
    go o h = grind arith

pub line_ids : (batches : EventId → List Batch) (ps : List PairRec) (ids : List EventId) → map id_of (lines_by batches ps ids) ≡ ids
line_ids batches ps [] = refl
line_ids batches ps (i ∷ ids) = λ j. line_id (batches i) ps i j ∷ line_ids batches ps ids j

-- ---- ids apart

apart : (i x : EventId) (o : Ordering) → id_cmp i x ≡ o → is_eq (ordering_reverse o) ≡ false → same_id x i ≡ false
apart i x o e f = tied x i ∙ ap is_eq (ids_total.antisymm x i ∙ ap ordering_reverse e) ∙ f

each_apart : (i : EventId) (ids : List EventId) → AllByRecursion (λ y. id_cmp i y ≡ Less) ids → AllByRecursion (λ y. same_id i y ≡ false) ids
each_apart i [] h = tt
each_apart i (y ∷ ids) h = (tied i y ∙ ap is_eq h.0, each_apart i ids h.1)

-- ---- one pair more

module _ (batches : EventId → List Batch) (before : List PairRec) (p : PairRec) where
  other : (i : EventId) → same_id p.click.id i ≡ false → line_by (batches i) i (first_pair before i) ≡ line_by (batches i) i (first_pair (before ++ p ∷ []) i)
  other i e = grind (arith, find_append)

  own : (i : EventId) → same_id p.click.id i ≡ true → joined p (line_by (batches i) i (first_pair before i)) ≡ line_by (batches i) i (first_pair (before ++ p ∷ []) i)
  own i e = grind (arith, find_append)

  lacks : (ids : List EventId) → AllByRecursion (λ i. same_id p.click.id i ≡ false) ids → lines_by batches before ids ≡ lines_by batches (before ++ p ∷ []) ids
  lacks [] h = refl
  lacks (i ∷ ids) h = λ j. other i h.0 j ∷ lacks ids h.1 j

  set_at : (ids : List EventId) (k : ℕ) (d : ReportLine) → IsStrictlySortedBy id_cmp ids → k < length ids → get_or ids k (id_of d) ≡ p.click.id
      → set (lines_by batches before ids) k (joined p (get_or (lines_by batches before ids) k d)) ≡ lines_by batches (before ++ p ∷ []) ids
  set_at [] k d rising lt is = absurd (omega (arith, lt))
  set_at (i ∷ ids) zero d rising lt is =
      let same : same_id p.click.id i ≡ true = subst (λ (x : EventId). same_id x i ≡ true) is (same_id-refl i) in
      let rest : lines_by batches before ids ≡ lines_by batches (before ++ p ∷ []) ids = lacks ids (subst (λ (x : EventId). AllByRecursion (λ y. same_id x y ≡ false) ids) is (each_apart i ids (sorted_head id_cmp i ids rising))) in
      λ j. own i same j ∷ rest j
  set_at (i ∷ ids) (suc k) d rising lt is =
      let below : id_cmp i (get_or ids k (id_of d)) ≡ Less = Less-from_sorted id_cmp (i ∷ ids) 0 (suc k) (id_of d) rising (omega arith) lt in
      let differs : same_id p.click.id i ≡ false = apart i p.click.id Less (subst (λ (x : EventId). id_cmp i x ≡ Less) is below) refl in
      let rest = set_at ids k d (sorted_tail id_cmp i ids rising) (omega (arith, lt)) is in
      λ j. other i differs j ∷ rest j

-- the line at this place has the pair's id
pub takes_at : {Z : Type 0} (xs : List (Box ReportLine Z)) (p : PairRec) (k : ℕ) (d b : Box ReportLine Z) → k < length xs → id_cmp (id_of (box_value (get_or xs k d))) p.click.id ≡ Equal → box_value b ≡ joined p (box_value (get_or xs k d))
    → TakesIn (p ∷ []) (unboxed xs) (unboxed (set xs k b))
takes_at {Z} xs p k d b lt tie made = λ batches before ids rising is.
    let value : Box ReportLine Z → ReportLine = λ e. box_value e in
    let here : get_or (unboxed xs) k (value d) ≡ value (get_or xs k d) = get_or-map value xs k d (value d) lt in
    let keys : map id_of (unboxed xs) ≡ ids = ap (map id_of) is ∙ line_ids batches before ids in
    let count : length (unboxed xs) ≡ length xs = length-map xs value in
    let counted : length ids ≡ length (unboxed xs) = sym (ap (λ (l : List EventId). length l) keys) ∙ length-map (unboxed xs) id_of in
    grind (arith, get_or-map, map-set, set_at)

-- ---- a search that finds nothing

index_rises : (a b x : EventId) → id_cmp a b ≡ Less → ordering_index (id_cmp a x) ≤ ordering_index (id_cmp b x)
index_rises a b x less = go (id_cmp a x) (id_cmp b x) refl refl
  where
    below : id_cmp b x ≡ Equal → id_cmp a x ≡ Less
    below e =
        let back : id_cmp x a ≡ id_cmp b a = ids_total.congr x b a (tied_back ids_total b x e) in
        ids_total.antisymm a x ∙ ap ordering_reverse (back ∙ ids_total.antisymm b a ∙ ap ordering_reverse less)

    go : (r s : Ordering) → id_cmp a x ≡ r → id_cmp b x ≡ s → ordering_index r ≤ ordering_index s
    go r s e f = grind (arith, ids_total)

module _ {Z : Type 0} (x : EventId) where
  key : Box ReportLine Z → EventId
  key b = id_of (box_value b)

  rises : (xs : List (Box ReportLine Z)) → IsStrictlySortedBy id_cmp (map key xs) → (i j : ℕ) (d : Box ReportLine Z) → i ≤ j → j < length xs → ordering_index (id_cmp (key (get_or xs i d)) x) ≤ ordering_index (id_cmp (key (get_or xs j d)) x)
  rises xs rising i j d le lt =
      ⊎_elim
      (λ (below : i < j).
      let a = get_or-map key xs i d (key d) (omega (arith, below, lt)) in
      let b = get_or-map key xs j d (key d) lt in
      let count : length (map key xs) ≡ length xs = length-map xs key in
      index_rises (key (get_or xs i d)) (key (get_or xs j d)) x ((λ t. id_cmp (sym a t) (sym b t)) ∙ Less-from_sorted id_cmp (map key xs) i j (key d) rising below (omega (arith, lt, count))))
      (λ (above : j ≤ i). let same : i ≡ j = omega (arith, le, above) in subst (λ (n : ℕ). ordering_index (id_cmp (key (get_or xs i d)) x) ≤ ordering_index (id_cmp (key (get_or xs n d)) x)) same (omega arith))
      (cases_lt i j)

  each_lacks : (xs : List (Box ReportLine Z)) → ((k : ℕ) (d : Box ReportLine Z) → k < length xs → same_id x (key (get_or xs k d)) ≡ false) → AllByRecursion (λ i. same_id x i ≡ false) (map key xs)
  each_lacks [] h = tt
  each_lacks (b ∷ xs) h = (h zero b (omega arith), each_lacks xs (λ k d lt. h (suc k) d (omega (arith, lt))))

-- no line has the pair's id
pub takes_nowhere : {Z : Type 0} (xs : List (Box ReportLine Z)) (p : PairRec) (n : ℕ) → IsBinarySearchResult (λ (b : Box ReportLine Z). id_cmp (id_of (box_value b)) p.click.id) xs (Err n) → TakesIn (p ∷ []) (unboxed xs) (unboxed xs)
unfolding key
takes_nowhere {Z} xs p n answer = λ batches before ids rising is.
    let x = p.click.id in
    let keys : map (key x) xs ≡ ids = sym (map-map id_of (λ (b : Box ReportLine Z). box_value b) xs) ∙ ap (map id_of) is ∙ line_ids batches before ids in
    let parts = answer (rises x xs (subst (IsStrictlySortedBy id_cmp) (sym keys) rising)) in
    let all : AllByRecursion (λ i. same_id x i ≡ false) (map (key x) xs) = each_lacks x xs (λ k d lt.
    ⊎_elim
    (λ (below : k < n). apart (key x (get_or xs k d)) x Less (parts.0 k d (omega arith) below) refl)
    (λ (above : n ≤ k). apart (key x (get_or xs k d)) x Greater (parts.1 k d above lt) refl)
    (cases_lt k n)) in
    is ∙ lacks batches before p ids (subst (AllByRecursion (λ i. same_id x i ≡ false)) keys all)

-- ---- the missing ones

pub missing_ids : (batches : EventId → List Batch) (ps : List PairRec) (ids : List EventId) → flat_map missing_id (lines_by batches ps ids) ≡ filter (λ i. is_missing_by (batches i) (first_pair ps i) i) ids
missing_ids batches ps [] = refl
missing_ids batches ps (i ∷ ids) = grind (arith, missing_ids batches ps ids)
