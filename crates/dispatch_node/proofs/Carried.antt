-- What a turn takes carries what the disks, the log and the core say.
use Rattle.std.proofs.Common.{◌≡◌, inl, ◌<◌, ℕ, zero, suc, length, get_or, arith, Bool, true, false, ◌==◌, List, [], ◌∷◌, ◌++◌, Option, Some, None, refl, sym, ap, ◌∙◌, subst, cond, is_ok, is_err, Result}
use Rattle.dispatch_node.proofs.Words.{option_map, ClickLine, eq-eqb, or_left, or_right, has, clash, Click, Input, Start, Setting, DispatcherKept, DispatcherLive, dispatcher_looks, live_of, Stands, IsKept, IsLineAt, click_at, IsLookedUp, AreClicksAt, DispatchCore, TakenLine, HeldPlaces, Knows, known, Numbered, IsReadable, StartsAt, AreLivePlaces, Fits}

-- any input but a Start
abbrev pub IsUp : Input → Type 0
IsUp Start = ⊥
IsUp _ = Unit {0}

-- up, it knows what it is asked at
pub knows_up : (g : Setting) (core : DispatchCore) (log : List ℕ) (held : HeldPlaces) (k : Numbered DispatcherKept) (live : Option DispatcherLive) (i : Input) → IsUp i → Fits live i → Knows core log held g k live
    → Stands g core k.disk (known core live) × AreLivePlaces g (known core live)
knows_up g core log held k h i up fits knows = grind arith

-- down, its start carries what it holds
pub start_carried : (g : Setting) (core : DispatchCore) (log : List ℕ) (held : HeldPlaces) (k : Numbered DispatcherKept) (live : Option DispatcherLive) (ps : List ℕ) → Fits live Start → Knows core log held g k live → ps ≡ held.pending.items → IsKept k.disk held.offset ps
start_carried g core log held k h ps fits knows is = grind arith

module _ (g : Setting) (core : DispatchCore) (k : DispatcherKept) (l : DispatcherLive) (stands : Stands g core k l) (places : AreLivePlaces g l) where
  -- nothing is looked for
  pub looks_not : (b : Bool) (line : Option TakenLine) (due : Option Click) → b ≡ dispatcher_looks (live_of core) → b ≡ false → dispatcher_looks l ≡ true → IsLookedUp g l l.due line due
  looks_not b line due is off looks = clash b (is ∙ ap dispatcher_looks stands.live ∙ looks) off

  -- a line starts at the first due position, and its click is looked up
  pub due_starts : (p : ℕ) → (rest : List ℕ) × ((live_of core).due ≡ p ∷ rest) → StartsAt g p
  due_starts p d = grind arith

  pub due_found : (p : ℕ) (line : Option TakenLine) (due : Option Click) → (rest : List ℕ) × ((live_of core).due ≡ p ∷ rest) → click_at g p ≡ due → dispatcher_looks l ≡ true → IsLookedUp g l l.due line due
  due_found p line due d found looks = grind arith

  pub place_readable : (p : ℕ) → p ≡ (live_of core).place → IsReadable g p
  place_readable p is = subst (λ (q : ℕ). IsReadable g q) (sym (is ∙ ap (λ (x : DispatcherLive). x.place) stands.live)) (inl places.place)

  -- none is due, and the line at the place is looked up
  pub line_found_at : (p : ℕ) (line : Option TakenLine) (due : Option Click) → (live_of core).due ≡ [] → p ≡ (live_of core).place → IsLineAt g p line → dispatcher_looks l ≡ true → IsLookedUp g l l.due line due
  line_found_at p line due none at found looks = grind arith

  pub trying_start : (ps : List ℕ) → ps ≡ (live_of core).trying → (p : ℕ) → has ps p ≡ true → StartsAt g p
  trying_start ps is p h = places.trying p (subst (λ (qs : List ℕ). has qs p ≡ true) (is ∙ ap (λ (x : DispatcherLive). x.trying) stands.live) h)

  pub trying_found : (ps : List ℕ) (cs : List Click) → ps ≡ (live_of core).trying → AreClicksAt g ps cs → AreClicksAt g l.trying cs
  trying_found ps cs is found = subst (λ (qs : List ℕ). AreClicksAt g qs cs) (is ∙ ap (λ (x : DispatcherLive). x.trying) stands.live) found

-- one position more with its click
pub clicks_more : (g : Setting) (ps : List ℕ) (cs : List Click) (p : ℕ) (c : Click) → AreClicksAt g ps cs → click_at g p ≡ Some c → AreClicksAt g (ps ++ p ∷ []) (cs ++ c ∷ [])
clicks_more g [] [] p c are is = (is, tt)
clicks_more g (q ∷ ps) (d ∷ cs) p c are is = (are.0, clicks_more g ps cs p c are.1 is)
clicks_more g _ _ p c are is = absurd are

pub has_at : (xs : List ℕ) (i d : ℕ) → i < length xs → has xs (get_or xs i d) ≡ true
has_at [] i d lt = absurd (omega (arith, lt))
has_at (x ∷ xs) zero d lt = or_left (x == x) (has xs x) (eq-eqb x x refl)
has_at (x ∷ xs) (suc i) d lt = or_right (x == get_or xs i d) (has xs (get_or xs i d)) (has_at xs i d (omega (arith, lt)))

pub click_of_line : (g : Setting) (p : ℕ) (t : TakenLine) → IsLineAt g p (Some t) → click_at g p ≡ Some t.click
click_of_line g p t line = ap (option_map (λ (l : ClickLine). l.click)) line.0

pub click_of_none : (g : Setting) (p : ℕ) → IsLineAt g p None → click_at g p ≡ None
click_of_none g p line = ap (option_map (λ (l : ClickLine). l.click)) line

pub pushed_items : {T E X : Type 0} (r : Result T E) (xs ys : List X) → is_err r ≡ false → cond (is_ok r) xs ys ≡ xs
pushed_items h xs ys e = grind arith
