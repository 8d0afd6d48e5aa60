-- Line boundaries and starts of lines are the places behind line feeds.
use Rattle.std.proofs.Common.{◌≡◌, ◌≢◌, ◌⊎◌, inl, inr, ⊎_elim, ℕ, zero, suc, ◌+◌, ◌-◌, ◌<◌, ◌≤◌, min, List, [], ◌∷◌, ◌++◌, length, get_or, Some, refl, sym, ap, subst, ◌∙◌, arith}
use Rattle.site_store.proofs.Words.{AllByRecursion, get_or-append, cases_lt, get_or-append-add, Mem, ClickRec, click_line, IsClick, line_feed, ClickLine, placed, at, end_from, Follow, IsBoundary, HoldsLines, click_lacks, lines_follow, lines_stand, at_mem, at_own, end_after, within_end, IsFloorOf, IsBehindFeed, IsStart}
use Rattle.list_words.specs.Bytes.{Lacks}

-- ---- lines that follow one another

ends_within : (ls : List ClickLine) (p : ℕ) (l : ClickLine) → Follow p ls → Mem l ls → l.end_ ≤ end_from p ls
ends_within [] p l f m = absurd m
ends_within (x ∷ ls) p l f (inl e) = subst (λ (y : ClickLine). y.end_ ≤ end_from x.end_ ls) e (end_after ls x.end_ f.2)
ends_within (x ∷ ls) p l f (inr m) = ends_within ls x.end_ l f.2 m

-- the line that a place is in
line_round : (ls : List ClickLine) (p i : ℕ) → Follow p ls → p ≤ i → i < end_from p ls → (l : ClickLine) × Mem l ls × (l.place ≤ i) × (i < l.end_)
line_round [] p i f low high = absurd (omega arith)
line_round (x ∷ ls) p i f low high =
    let here = f.0 in
    ⊎_elim
    (λ within. (x, inl refl, omega arith, within))
    (λ past. let later = line_round ls x.end_ i f.2 past high in (later.0, inr later.1, later.2, later.3))
    (cases_lt i x.end_)

-- a line starts where the first does or where another ends
place_boundary : (ls : List ClickLine) (p : ℕ) (l : ClickLine) → Follow p ls → Mem l ls → (l.place ≡ p) ⊎ ((m : ClickLine) × Mem m ls × (m.end_ ≡ l.place))
place_boundary [] p l f m = absurd m
place_boundary (x ∷ ls) p l f h = grind (arith, place_boundary ls x.end_ l f.2)

-- where a line ends and more follow, the next one starts
next_start : (ls : List ClickLine) (p q : ℕ) → Follow p ls → (q ≡ p) ⊎ ((l : ClickLine) × Mem l ls × (l.end_ ≡ q)) → q < end_from p ls → (l : ClickLine) × Mem l ls × (l.place ≡ q)
next_start [] p q f h low = grind arith
next_start (x ∷ ls) p q f h low = grind (arith, next_start ls x.end_ q f.2)

-- ---- lines in their log

placed_is : (p : ℕ) (cs : List ClickRec) (l : ClickLine) → AllByRecursion IsClick cs → Mem l (placed p cs) → IsClick l.click
placed_is p [] l each m = absurd m
placed_is p (c ∷ cs) l each (inl e) = subst (λ (y : ClickLine). IsClick y.click) e each.0
placed_is p (c ∷ cs) l each (inr m) = placed_is (suc (p + length (click_line c))) cs l each.1 m

lacks_at : (byte : ℕ) (xs : List ℕ) (i : ℕ) → Lacks byte xs → i < length xs → get_or xs i 0 ≢ byte
lacks_at byte [] i h lt = absurd (omega arith)
lacks_at byte (x ∷ xs) zero h lt = h.0
lacks_at byte (x ∷ xs) (suc i) h lt = lacks_at byte xs i h.1 (omega arith)

module _ (log : List ℕ) (ls : List ClickLine) (h : HoldsLines log ls) where
  follow : Follow 0 ls
  follow = (lines_follow log ls h).0

  end_feed : (l : ClickLine) → Mem l ls → IsBehindFeed log l.end_
  end_feed l m =
      let (front, rest, is, len, end_is) = lines_stand log ls h l m in
      let line = click_line l.click in
      let there : get_or log (length front + (length line + 0)) 0 ≡ line_feed =
      ap (λ (x : List ℕ). get_or x (length front + (length line + 0)) 0) is ∙ get_or-append-add front (line ++ line_feed ∷ rest) (length line + 0) 0 ∙ get_or-append-add line (line_feed ∷ rest) 0 0 in
      let place : length front + (length line + 0) ≡ l.place + length line = omega arith in
      (l.place + length line, end_is, subst (λ i. get_or log i 0 ≡ line_feed) place there)

  -- no line feed stands within a line
  line_byte : (l : ClickLine) (i : ℕ) → Mem l ls → l.place ≤ i → suc i < l.end_ → get_or log i 0 ≢ line_feed
  line_byte l i m low high feed =
      let (front, rest, is, len, end_is) = lines_stand log ls h l m in
      let line = click_line l.click in
      let j = i - l.place in
      let within : j < length line = omega arith in
      let place : i ≡ length front + j = omega arith in
      let here : get_or log i 0 ≡ get_or line j 0 =
      ap (λ k. get_or log k 0) place ∙ ap (λ (x : List ℕ). get_or x (length front + j) 0) is ∙ get_or-append-add front (line ++ line_feed ∷ rest) j 0 ∙ get_or-append line (line_feed ∷ rest) 0 j within in
      lacks_at line_feed line j (click_lacks l.click (placed_is 0 h.clicks l h.holds.each (subst (Mem l) h.lines m))) within (sym here ∙ feed)

  boundary_of : (q : ℕ) → q ≤ end_from 0 ls → IsBehindFeed log q → IsBoundary ls q
  boundary_of q le (i, is, feed) =
      let (l, m, low, high) = line_round ls 0 i follow (omega arith) (omega arith) in
      grind (arith, line_byte)

  feed_of : (q : ℕ) → 0 < q → IsBoundary ls q → IsBehindFeed log q
  feed_of q some h = grind (arith, end_feed)

  boundary_within : (q : ℕ) → IsBoundary ls q → q ≤ end_from 0 ls
  boundary_within q h = grind (arith, ends_within, follow)

  start_boundary : (q : ℕ) → IsStart ls q → IsBoundary ls q
  start_boundary q (l, is) = let (m, e) = at_mem ls q l is in subst (IsBoundary ls) e (place_boundary ls 0 l follow m)

  start_within : (q : ℕ) → IsStart ls q → q < end_from 0 ls
  start_within q (l, is) = let (m, e) = at_mem ls q l is in subst (λ p. p < end_from 0 ls) e (within_end ls 0 l follow m)

  start_of : (q : ℕ) → IsBoundary ls q → q < end_from 0 ls → IsStart ls q
  start_of q b low = let (l, m, e) = next_start ls 0 q follow b low in (l, subst (λ p. at ls p ≡ Some l) e (at_own ls 0 l follow m))

  -- ---- floors

  module _ (end_ : ℕ) (end_is : end_ ≡ end_from 0 ls) where
    pub boundary_floor : (at_ floor : ℕ) → IsFloorOf (IsBehindFeed log) (min at_ end_) floor → IsFloorOf (IsBoundary ls) at_ floor
    boundary_floor at_ floor f =
        let below = f.below in
        record {
          above = f.above;
          below = omega arith;
          is = ⊎_elim (λ none. inl none) (λ feed. inr (boundary_of floor (omega arith) feed)) f.is;
          none = λ q low high b. let within = boundary_within q b in f.none q low (omega arith) (feed_of q (omega arith) b);
        }

    pub start_floor : (at_ floor : ℕ) → IsFloorOf (IsBehindFeed log) (min at_ (end_ - 1)) floor → IsFloorOf (IsStart ls) at_ floor
    start_floor at_ floor f =
        let below = f.below in
        record {
          above = f.above;
          below = omega arith;
          is = ⊎_elim (λ none. inl none) (λ (i, is, feed). inr (start_of floor (boundary_of floor (omega arith) (i, is, feed)) (omega arith))) f.is;
          none = λ q low high s. let within = start_within q s in f.none q low (omega arith) (feed_of q (omega arith) (start_boundary q s));
        }

    pub boundary_fits : (floor : ℕ) → IsFloorOf (IsBoundary ls) floor floor → IsBoundary ls floor
    boundary_fits floor f = ⊎_elim (λ none. inl none) (λ b. b) f.is

    pub start_fits : (floor : ℕ) → IsFloorOf (IsStart ls) floor floor → 0 < end_ → IsStart ls floor
    start_fits floor f some = ⊎_elim (λ none. start_of floor (inl none) (omega arith)) (λ s. s) f.is

    pub start_some : (p : ℕ) → IsStart ls p → 0 < end_
    start_some p s = let within = start_within p s in omega arith
