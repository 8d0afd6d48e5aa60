-- A row's note is one that the disks take, and what is known goes on to fit what they keep.
use Rattle.std.proofs.Common.{◌≡◌, ◌⊎◌, inr, ⊎_elim, ℕ, ◌<◌, ◌≤◌, Bool, true, false, ◌==◌, List, [], ◌∷◌, ◌++◌, Some, refl, sym, subst, arith}
use Rattle.std.specs.Prelude.{IfSome}
use Rattle.dispatch_node.proofs.Words.{and_parts, lt-ltb, not-true, or_cases, eqb-true, eq-eqb, or_left, or_right, Mem, has, without, clash, option_both, cond_both, each_append, has_push-or, has_push-left, has_push-false, has_without-true, has_without, has_without-false, ClickLine, at, Follow, at_mem, Deliver, Input, Own, Start, Tick, Packet, Outcome, Setting, Out, land, idle, DispatcherKept, DispatcherLive, Fresh, land_dispatcher, done_end, after_done, first_done, waits, mark, has_room, with_room, advances, retries, takes, taken, ends, parks, dispatcher_own, dispatcher_gets, dispatcher_joined, dispatcher_turn, dispatcher_start, takes_note, AreInOrder, Follows, IsEntry, AreKeptPlaces, AreLivePlaces}
use Rattle.turn_defs.specs.declared.packet.Outcome.TheVariants as outcome
use Rattle.turn_defs.specs.declared.packet.Packet.TheVariants as packet
use Rattle.dispatch_node.proofs.Places.{pushed, left_out, end_boundary, after_each, mark_each, waits_start}

-- what a row leaves: the disks take its note, and what is known then fits what they keep then, at places of the log
pub record Leaves (g : Setting) (k : DispatcherKept) (out : Out DispatcherLive) : Type 0 where
  pub taken : IfSome out.note (λ n. takes_note k n ≡ true)
  pub fits : Follows (land land_dispatcher out.note k) out.live
  pub places : AreKeptPlaces g k → AreKeptPlaces g (land land_dispatcher out.note k) × AreLivePlaces g out.live

-- ---- the window's order

end_after : (a : ℕ) (fs : List Fresh) (z : ℕ) → AreInOrder a fs z → a ≤ done_end a fs
end_after a [] z o = omega arith
end_after a (f ∷ fs) z o = grind (arith, end_after f.end_ fs z o.2)

order_after : (a : ℕ) (fs : List Fresh) (z : ℕ) → AreInOrder a fs z → AreInOrder (done_end a fs) (after_done fs) z
order_after a [] z o = o
order_after a (f ∷ fs) z o = grind (arith, done_end, order_after f.end_ fs z o.2)

order_push : (a : ℕ) (fs : List Fresh) (z : ℕ) (f : Fresh) → AreInOrder a fs z → f.position ≡ z → f.position < f.end_ → AreInOrder a (fs ++ f ∷ []) f.end_
order_push a [] z f o is lt = (subst (λ (n : ℕ). a ≤ n) (sym is) o, lt, omega arith)
order_push a (x ∷ fs) z f o is lt = (o.0, o.1, order_push x.end_ fs z f o.2 is lt)

order_mark : (a p : ℕ) (fs : List Fresh) (z : ℕ) → AreInOrder a fs z → AreInOrder a (mark fs p) z
order_mark a p [] z o = o
order_mark a p (f ∷ fs) z o = grind (arith, order_mark f.end_ p fs z o.2)

-- ---- what waits

waits_after : (fs : List Fresh) (q : ℕ) → waits (after_done fs) q ≡ true → waits fs q ≡ true
waits_after [] q e = e
waits_after (f ∷ fs) q e = grind (arith, waits, after_done, waits_after fs q)

waits_mark : (fs : List Fresh) (p q : ℕ) → waits (mark fs p) q ≡ true → (waits fs q ≡ true) × (q ≡ p → ⊥)
waits_mark [] p q e = clash false e refl
waits_mark (f ∷ fs) p q e = grind (arith, or_right, waits, mark, clash, and_parts, or_cases, or_left, eq-eqb, waits_mark fs p q)

waits_push : (fs : List Fresh) (f : Fresh) (q : ℕ) → waits (fs ++ f ∷ []) q ≡ true → (waits fs q ≡ true) ⊎ ((f.position ≡ q) × (f.done ≡ false))
waits_push [] f q e = grind (arith, eqb-true, and_parts, not-true, clash, or_cases)
waits_push (x ∷ fs) f q e = grind (arith, or_left, waits, or_right, waits_push fs f q)

-- ---- rows

not_empty : (ls : List ClickLine) (p : ℕ) (l : ClickLine) → Follow p ls → Mem l ls → l.place < l.end_
not_empty [] p l f m = absurd m
not_empty (x ∷ ls) p l f h = grind (arith, not_empty ls x.end_ l f.2)

module _ (g : Setting) (site : ℕ) (k : DispatcherKept) (l : DispatcherLive) (lines : Follow 0 g.clicks) (apart : (p : ℕ) → has l.due p ≡ true → has l.trying p ≡ false) (fits : Follows k l) (live : AreLivePlaces g l) where
  abbrev Out_ : Out DispatcherLive → Type 0
  Out_ out = Leaves g k out

  idles : Out_ (idle l)
  idles = record { taken = tt; fits = fits; places = λ kept. (kept, live) }

  advance : first_done l.fresh ≡ true → Out_ (advances g site k l)
  advance done = grind (arith, taken, lt-ltb, done_end, clash, end_after, order_after, waits_after, end_boundary, after_each)

  retry : (p : ℕ) (ps : List ℕ) → l.due ≡ p ∷ ps → Out_ (retries g site k l p ps (at g.clicks p))
  retry p ps due =
      let own : has l.due p ≡ true = subst (λ (ds : List ℕ). has ds p ≡ true) (sym due) (or_left (p == p) (has ps p) (eq-eqb p p refl)) in
      let still : (q : ℕ) → has ps q ≡ true → has l.due q ≡ true = λ q h. subst (λ (ds : List ℕ). has ds q ≡ true) (sym due) (or_right (p == q) (has ps q) h) in
      grind (arith, option_both, at, retries, taken, has, has_push-or, pushed)

  entered : (c : ClickLine) (done : Bool) → at g.clicks l.place ≡ Some c → (done ≡ false → has k.pending c.place ≡ false) → Follows k (taken g site k l c done) × AreLivePlaces g (taken g site k l c done)
  entered c done found none =
      let mem = at_mem g.clicks l.place c found in
      let own : at g.clicks c.place ≡ Some c = subst (λ (p : ℕ). at g.clicks p ≡ Some c) (sym mem.1) found in
      let entry : Fresh = record { position = c.place; end_ = c.end_; click = c.click; done = done } in (
        record {
          fresh = order_push k.offset l.fresh l.place entry fits.fresh mem.1 (not_empty g.clicks 0 c lines mem.0);
          waiting = λ q w. ⊎_elim (λ old. fits.waiting q old) (λ new. subst (λ (n : ℕ). has k.pending n ≡ false) new.0 (none new.1)) (waits_push l.fresh entry q w);
          due = fits.due;
          trying = fits.trying;
        },
        record { place = inr (c, mem.0, refl); fresh = each_append (IsEntry g) l.fresh (entry ∷ []) live.fresh (own, tt); due = live.due; trying = live.trying },
      )

  take_line : Out_ (takes g site k l (at g.clicks l.place))
  take_line =
      option_both (at g.clicks l.place) (takes g site k l) Out_
      (λ c found.
      cond_both (has k.pending c.place) _ _ Out_
      (λ t. let e = entered c true found (λ e. clash true refl e) in record { taken = tt; fits = e.0; places = λ kept. (kept, e.1) })
      (λ f. let e = entered c false found (λ e. f) in record { taken = tt; fits = e.0; places = λ kept. (kept, e.1) }))
      (λ none. record {
        taken = tt;
        fits = record { fresh = fits.fresh; waiting = fits.waiting; due = fits.due; trying = fits.trying };
        places = λ kept. (kept, record { place = live.place; fresh = live.fresh; due = live.due; trying = live.trying });
      })

  room : (due : List ℕ) → l.due ≡ due → Out_ (with_room g site k l due)
  room [] e = cond_both l.ended _ _ Out_ (λ t. idles) (λ f. take_line)
  room (p ∷ ps) e = retry p ps e

  own : Out_ (dispatcher_own g site k l)
  own = cond_both (first_done l.fresh) _ _ Out_ (λ t. advance t) (λ f. cond_both (has_room l) _ _ Out_ (λ t. room l.due refl) (λ f'. idles))

  marked : (p : ℕ) → AreLivePlaces g (record l { fresh = mark l.fresh p })
  marked p = record { place = live.place; fresh = mark_each g l.fresh p live.fresh; due = live.due; trying = live.trying }

  tried : (p : ℕ) → AreLivePlaces g (record l { trying = without l.trying p })
  tried p = record { place = live.place; fresh = live.fresh; due = live.due; trying = left_out g l.trying p live.trying }

  end_join : (p : ℕ) → Out_ (ends g site k l p)
  end_join p = grind (arith, cond_both, waits, taken, order_mark, waits_mark, marked, has, idles, without, has_without-false, has_without, clash, has_without-true, left_out)

  park : (p : ℕ) → Out_ (parks g site k l p)
  park p = grind (arith, cond_both, waits, taken, order_mark, waits_mark, has_push-false, has_push-left, pushed, waits_start, marked, has, has_without-true, tried)

  joined : (p : ℕ) (o : Outcome) → Out_ (dispatcher_joined g site k l p o)
  joined p (outcome.NoQuery t) = park p
  joined p outcome.Busy = idles
  joined p _ = end_join p

  gets : (p : Packet) → Out_ (dispatcher_gets g site k l p)
  gets (packet.Joined p o) = joined p o
  gets _ = idles

  -- a turn of a node that is up
  pub turn_goes : (i : Input) → Out_ (dispatcher_turn g site k l i)
  turn_goes Own = own
  turn_goes (Deliver from p) = gets p
  turn_goes Tick = record { taken = tt; fits = fits; places = λ kept. (kept, live) }
  turn_goes Start = idles

-- it comes up
pub start_goes : (g : Setting) (k : DispatcherKept) → Leaves g k (dispatcher_start k)
start_goes g k = grind (arith, taken)
