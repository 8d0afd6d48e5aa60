-- The first line with an id, by its place and by what an index says.
use Rattle.std.proofs.Common.{◌≡◌, ℕ, ◌<◌, ◌≤◌, Bool, true, false, nat_lt, List, Option, Some, None, MatchOption, option_map, unwrap_or, refl, sym, ap, ◌∙◌, subst, arith, ltb-true}
use Rattle.event_store.proofs.Words.{none-some, nat_tests, MatchOption-at_some, MatchOption-at_none, EventId, QueryRec, Index, AreRead, found, Mark, First, first_of, place_of, stray_of, Begins, IsStray, IsSegment, Starts, Knows, IsCache}
use Rattle.event_store.proofs.Marking.{first_below, stray_first, no_stray}
use Rattle.event_store.proofs.Walks.{walk_on, line_at, next_same, found_append}

-- where a longer front has no line with the id, none has
pub none_in_front : (log : List ℕ) (x y : ℕ) (xs ys : List (Option QueryRec)) (id : EventId) → AreRead log x xs → AreRead log y ys → x ≤ y → found ys id ≡ None → found xs id ≡ None
none_in_front log x y xs ys id xw yw le none = grind (arith, walk_on, found_append)

-- among lines that reach beyond it, it is found
pub found_beyond : (log : List ℕ) (id : EventId) (s x : ℕ) (xs : List (Option QueryRec)) (first : Starts log id s) → AreRead log x xs → s < x → found xs id ≡ Some first.3.1
found_beyond log id s x xs (before, walk, none, (next, q, step, same)) xw lt =
    let at = line_at log s x before xs walk xw lt in
    let one = next_same log s next at.0 (Some q) at.1 step at.2 in
    grind (arith, found_append)

beyond_first : (log : List ℕ) (id : EventId) (s x : ℕ) (xs : List (Option QueryRec)) → Starts log id s → AreRead log x xs → s < x → found xs id ≡ None → ⊥
beyond_first log id s x xs first xw lt absent = none-some first.3.1 (sym absent ∙ found_beyond log id s x xs first xw lt)

-- there is one first line
starts_same : (log : List ℕ) (id : EventId) (a b : ℕ) → Starts log id a → Starts log id b → a ≡ b
starts_same log id a b fa fb = here (nat_lt a b) (nat_lt b a) refl refl
  where
    here : (t u : Bool) → nat_lt a b ≡ t → nat_lt b a ≡ u → a ≡ b
    here true u e f = absurd (beyond_first log id a b fb.0 fa fb.1 (ltb-true a b e) fb.2)
    here false true e f = absurd (beyond_first log id b a fa.0 fb fa.1 (ltb-true b a f) fa.2)
    here false false e f = grind (arith, nat_tests)

module _ (log : List ℕ) (place : ℕ) (index : Index) (lines : List (Option QueryRec)) (marks : List Mark) (knows : Knows log place index lines marks) (id : EventId) where
  starts : (f : First) → first_of marks id ≡ Some f → Starts log id f.place
  starts f first = MatchOption-at_some (found lines id ≡ None) (λ (g : First). Starts log id g.place) f first (knows.tied id)

  pub absent : first_of marks id ≡ None → found lines id ≡ None
  absent none = MatchOption-at_none (found lines id ≡ None) (λ (g : First). Starts log id g.place) none (knows.tied id)

  -- what place_of says of the log
  pub first_at : (s : ℕ) → place_of marks id ≡ Some s → Starts log id s × (s < place)
  first_at s is = grind (arith, first_below)

  -- what is kept at hand of lines from there on
  pub kept_ahead : (log' : List ℕ) (s : ℕ) (old new : List (EventId × QueryRec)) → place_of marks id ≡ Some s → log' ≡ log → ((front lines : List (Option QueryRec)) (marks : List Mark) → AreRead log' s front → Knows log' place index lines marks → IsCache old lines → IsCache new lines) → IsCache old lines → IsCache new lines
  kept_ahead log' s old new is same more cache = let first = first_at s is in more first.0.0 lines marks (subst (λ (l : List ℕ). AreRead l s first.0.0) (sym same) first.0.1) (subst (λ (l : List ℕ). Knows l place index lines marks) (sym same) knows) cache

  pub nowhere : place_of marks id ≡ None → found lines id ≡ None
  nowhere is = grind arith

  -- and the log of place_of
  pub place_is : (s : ℕ) → Starts log id s → s < place → place_of marks id ≡ Some s
  place_is s first lt = here (first_of marks id) refl
    where
      here : (o : Option First) → first_of marks id ≡ o → place_of marks id ≡ Some s
      here None e = absurd (beyond_first log id s place lines first knows.walk lt (absent e))
      here (Some f) e = ap (option_map (λ (f : First). f.place)) e ∙ ap (λ (n : ℕ). Some n) (starts_same log id f.place s (starts f e) first)

  -- up to a place that isn't behind the first line with the id, none is found
  none_up_to : (x : ℕ) (xs : List (Option QueryRec)) → AreRead log x xs → x ≤ place → ((f : First) → first_of marks id ≡ Some f → x ≤ f.place) → found xs id ≡ None
  none_up_to x xs walk le before = grind (arith, none_in_front)

  -- what a scan tells of the lines up to its end
  abbrev pub Scanned : ℕ → List (Option QueryRec) → Option ℕ → Type 0
  Scanned x upto r = MatchOption r (found upto id ≡ None) (λ s. (s < x) × Starts log id s)

  abbrev pub Tells : Option ℕ → Type 0
  Tells r = MatchOption r (IsStray marks id) (λ s. place_of marks id ≡ Some s)

  -- the lines that a scan wants, and what it tells of the id
  abbrev pub Scans : ℕ → ℕ → Type 0
  Scans s x = (front upto : List (Option QueryRec)) × AreRead log s front × (found front id ≡ None) × AreRead log x upto × ((r : Option ℕ) → Scanned x upto r → Tells r)

  between : (s x : ℕ) (front upto : List (Option QueryRec)) → AreRead log s front → AreRead log x upto → s ≤ x → x ≤ place → ((f : First) → first_of marks id ≡ Some f → s ≤ f.place) → ((f : First) → first_of marks id ≡ Some f → f.ordered ≡ true → f.place < x) → Scans s x
  between s x front upto fw uw le up low high = (front, upto, fw, none_up_to s front fw (omega (arith, le, up)) low, uw, tells)
    where
      strays : (f : First) → first_of marks id ≡ Some f → found upto id ≡ None → (t : Bool) → f.ordered ≡ t → f.ordered ≡ false
      strays f first none false t = t
      strays f first none true t = absurd (beyond_first log id f.place x upto (starts f first) uw (high f first t) none)

      tells : (r : Option ℕ) → Scanned x upto r → Tells r
      tells None none = λ f first. strays f first none f.ordered refl
      tells (Some s) at = place_is s at.1 (omega (arith, at.0, up))

module _ (log : List ℕ) (place : ℕ) (index : Index) (lines : List (Option QueryRec)) (marks : List Mark) (knows : Knows log place index lines marks) where
  walk_to : (s : ℕ) → Begins marks s → (before : List (Option QueryRec)) × AreRead log s before × (s < place)
  walk_to s h = grind (arith, first_below)

  pub in_segment : (id : EventId) (s : ℕ) (end_ : Option ℕ) → IsSegment marks id s end_ → Scans log place index lines marks knows id s (unwrap_or end_ place)
  in_segment id s None segment =
      let start = walk_to s segment.0 in
      between log place index lines marks knows id s place start.0 lines start.1 knows.walk (omega (arith, start.2)) (omega arith) segment.1 (λ f first order. first_below place marks id f knows.falls first)
  in_segment id s (Some e) segment =
      let start = walk_to s segment.0 in
      let stop = walk_to e segment.2.0 in
      between log place index lines marks knows id s e start.0 stop.0 start.1 stop.1 (omega (arith, segment.2.1)) (omega (arith, stop.2)) segment.1 segment.2.2

-- where the first line with the id is no in-order one, the first stray is it
pub stray_is : (marks : List Mark) (id : EventId) → IsStray marks id → stray_of marks id ≡ place_of marks id
stray_is marks id stray = grind (arith, no_stray, stray_first)
