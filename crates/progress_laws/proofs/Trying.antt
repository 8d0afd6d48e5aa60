-- In an interval in which nothing is done a line that a dispatcher has tried gets a joiner of its site a join in flight.
use Rattle.std.proofs.Common.{◌≡◌, ◌⊎◌, inl, inr, ⊎_elim, ℕ, ◌<◌, Bool, true, false, ◌&&◌, ◌==◌, nat_lt, ◌-◌, ◌^◌, List, ◌∷◌, length, Some, refl, sym, ap, ◌∙◌, subst, lit<, [], arith, Option, not}
use Rattle.progress_laws.proofs.Words.{cond_both, true≢false, cases_Bool, and_parts, or_cases, or_left, or_right, eqb-true, lt-ltb, not_from_true, clash, Click, ClickLine, at, Mem, has, mem_left, mem_right, option_both, has_without-self, Setting, IsJoiner, site_of_joiner, IsTo, Note, Out, idle, Packet, Join, Joined, NoQuery, Node, Dispatcher, Joiner, To, Only, AnyJoiner, Input, Tick, Deliver, Sent, DispatcherKept, DispatcherLive, Fresh, waits, mark, join, fresh_joins, join_if, trying_joins, dispatcher_turn, dispatcher_unfinished, some_waits, JoinerKept, JoinerLive, Flight, in_flight, looks, joiner_turn, World, Entry, dispatcher_row, joiner_row, after, world_after, DispatcherWorks, if_up, is_out, IfUp, IsIdle, up_is}
use Rattle.photon_model.proofs.Words.{first}
use Rattle.progress_laws.proofs.Moments.{opened_at, IsEnd, Step, along_idle, Pending, comes, turned, ended_own, lives, up_after, no_work, goes, row_sent, row_sent_to}
use Rattle.progress_laws.proofs.Claims.{HasFlight, flight_stays}

-- ---- what becomes of a line that a dispatcher has tried

-- a line begins at the position
abbrev pub IsLineAt : Setting → ℕ → Type 0
IsLineAt g p = (c : ClickLine) × (at g.clicks p ≡ Some c)

-- the join at the position has not ended: it waits in fresh, or it is in trial and stands for a line
abbrev pub IsTried : Setting → DispatcherLive → ℕ → Type 0
IsTried g l p = (waits l.fresh p ≡ true) ⊎ ((has l.trying p ≡ true) × IsLineAt g p)

abbrev pub HasTried : Setting → World → ℕ → ℕ → Type 0
HasTried g w s p = (l : DispatcherLive) × ((w.dispatchers s).live ≡ Some l) × IsTried g l p

module _ (g : Setting) (w : World) (air : List Sent) (es : List Entry) where
  -- a Join for the position is underway to a joiner of the site
  abbrev pub IsJoinUnderway : ℕ → ℕ → Type 0
  IsJoinUnderway s p = (j : ℕ) × (from : Node) × (c : Click) × IsJoiner g j × (site_of_joiner g j ≡ s) × Pending w air es (Joiner j) (Deliver from (Join p c))

  -- a joiner told the dispatcher that it has no query yet
  abbrev pub IsTold : ℕ → ℕ → Type 0
  IsTold s p = (from : Node) × (n : ℕ) × Pending w air es (Dispatcher s) (Deliver from (Joined p (NoQuery n)))

  -- the dispatcher has a Tick, or a Join is underway, or a joiner of the site has a join in flight, or the dispatcher is told
  -- that there is no query yet
  abbrev pub TrialGoes : ℕ → ℕ → Type 0
  TrialGoes s p = (Pending w air es (Dispatcher s) Tick ⊎ IsJoinUnderway s p) ⊎ (HasFlight g w s ⊎ IsTold s p)

  -- the joiners are up, and the position's join goes on
  pub record TrialGoesOn (s p : ℕ) : Type 0 where
    pub up : (j : ℕ) → IsJoiner g j → (l : JoinerLive) × ((w.joiners j).live ≡ Some l)
    pub tried : HasTried g w s p
    pub goes : TrialGoes s p

-- each position in trial is that of a line
abbrev pub HasLines : Setting → World → Type 0
HasLines g w = (s : ℕ) → s < 2 → (l : DispatcherLive) → (w.dispatchers s).live ≡ Some l → (p : ℕ) → has l.trying p ≡ true → IsLineAt g p

-- ---- the dispatcher's rows

marked_waits : (fs : List Fresh) (p : ℕ) → waits (mark fs p) p ≡ false
marked_waits [] p = refl
marked_waits (f ∷ fs) p = grind (arith, marked_waits fs p)

module _ (g : Setting) (site : ℕ) (k : DispatcherKept) (l : DispatcherLive) where
  -- a joiner's word that there is no query yet ends a trial
  told_works : (p n : ℕ) (from : Node) (o : Option Note) → IsTried g l p → DispatcherWorks l (dispatcher_turn g site k l (Deliver from (Joined p (NoQuery n)))).live o
  told_works p n from o t = grind (arith, marked_waits, has_without-self)

  abbrev pub SendsJoin : ℕ → List (To × Packet) → Type 0
  SendsJoin p ps = (c : Click) × Mem (AnyJoiner site, Join p c) ps

  fresh_sends : (fs : List Fresh) (p : ℕ) → waits fs p ≡ true → SendsJoin p (fresh_joins g site k l fs)
  fresh_sends [] p e = absurd (true≢false (sym e))
  fresh_sends (f ∷ fs) p e =
      cond_both f.done (fresh_joins g site k l fs) (join site f.position f.click ∷ fresh_joins g site k l fs) (SendsJoin p)
      (λ d. ⊎_elim (λ q. clash (not f.done) (and_parts (f.position == p) (not f.done) q).1 (not_from_true f.done d)) (λ q. fresh_sends fs p q) (or_cases ((f.position == p) && not f.done) (waits fs p) e))
      (λ _. ⊎_elim (λ q. (f.click, inl (ap (λ x. (AnyJoiner site, Join x f.click)) (eqb-true f.position p (and_parts (f.position == p) (not f.done) q).0)))) (λ q. let h = fresh_sends fs p q in (h.0, inr h.1)) (or_cases ((f.position == p) && not f.done) (waits fs p) e))

  trying_sends : (ps : List ℕ) (p : ℕ) → has ps p ≡ true → IsLineAt g p → SendsJoin p (trying_joins g site k l ps)
  trying_sends [] p e line = absurd (true≢false (sym e))
  trying_sends (q ∷ ps) p e line =
      ⊎_elim
      (λ h. let same = eqb-true q p h in subst (λ o. SendsJoin p (join_if g site k l q o (trying_joins g site k l ps))) (sym (ap (at g.clicks) same ∙ line.1)) (line.0.click, inl (ap (λ x. (AnyJoiner site, Join x line.0.click)) same)))
      (λ h. more (at g.clicks q) (trying_sends ps p h line)) (or_cases (q == p) (has ps p) e)
    where
      more : (o : Option ClickLine) → SendsJoin p (trying_joins g site k l ps) → SendsJoin p (join_if g site k l q o (trying_joins g site k l ps))
      more o h = grind arith

  tick_sends : (p : ℕ) → IsTried g l p → SendsJoin p (dispatcher_turn g site k l Tick).packets
  tick_sends p h = grind (arith, fresh_sends, mem_left, trying_sends, mem_right)

-- ---- a joiner's turn that takes a Join

-- a join is in flight then, or the dispatcher is told that there is no query yet
abbrev Taken : Setting → ℕ → ℕ → Out JoinerLive → Type 0
Taken g j p o = ((f : Flight) × Mem f o.live.flight) ⊎ ((n : ℕ) × Mem (Only (Dispatcher (site_of_joiner g j)), Joined p (NoQuery n)) o.packets)

join_taken : (g : Setting) (j : ℕ) (k : JoinerKept) (l : JoinerLive) (p : ℕ) (c : Click) (from : Node) → l.number < 2 ^ 64 - 1 → Taken g j p (joiner_turn g j k l (Deliver from (Join p c)))
join_taken g j k l p c from low =
    cond_both (in_flight l.flight c.id) (idle l) _ (Taken g j p) (λ e. inl (some_flight l.flight e))
    (λ _. cond_both (nat_lt (length l.flight) 32) _ _ (Taken g j p)
    (λ _. option_both (first g.queries c.query) (looks g j k l p c) (Taken g j p)
    (λ q _. cond_both (nat_lt l.number (2 ^ 64 - 1)) _ (idle l) (Taken g j p)
    (λ _. inl (record { position = p; click = c; query = q; token = record { joiner = j; epoch = k.epoch; number = l.number } }, mem_right _ l.flight _ (inl refl)))
    (λ e. clash (nat_lt l.number (2 ^ 64 - 1)) (lt-ltb l.number (2 ^ 64 - 1) low) e))
    (λ _. inr (length g.queries, inl refl)))
    (λ e. inl (many_flights l.flight e)))
  where
    some_flight : (fs : List Flight) → in_flight fs c.id ≡ true → (f : Flight) × Mem f fs
    some_flight [] e = clash false e refl
    some_flight (f ∷ fs) e = (f, inl refl)

    many_flights : (fs : List Flight) → nat_lt (length fs) 32 ≡ false → (f : Flight) × Mem f fs
    many_flights [] e = clash (nat_lt 0 32) (lt-ltb 0 32 (lit< tt)) e
    many_flights (f ∷ fs) e = (f, inl refl)

module _ {g : Setting} {dead : ℕ → Bool} {w : World} {air next : List Sent} {e : Entry} {es : List Entry} (step : Step g dead w air next e es) (s p : ℕ) where
  tried_stays : HasTried g w s p → HasTried g (after g w e) s p
  tried_stays (l, up, t) =
      lives step (Dispatcher s) (λ same. (l, same ∙ up, t))
      (λ end now. ⊎_elim (λ k. ((dispatcher_row g s (w.dispatchers s)).live, now, k)) (λ works. absurd (no_work step (Dispatcher s) l up end works)) (either (dispatcher_row g s (w.dispatchers s)).live t))
    where
      either : (b : DispatcherLive) → IsTried g l p → IsTried g b p ⊎ ((o : Option Note) → DispatcherWorks l b o)
      either b (inl t) = ⊎_elim (λ k. inl (inl k)) (λ k. inr (λ o. inl (inr (p, t, k)))) (cases_Bool (waits b.fresh p))
      either b (inr t) = ⊎_elim (λ k. inl (inr (k, t.1))) (λ k. inr (λ o. inr (inl (p, t.0, k)))) (cases_Bool (has b.trying p))

  -- a Join goes to a joiner of the site
  to_joiner : (c : Click) (to : Node) → IsTo g (AnyJoiner s) to → (is_out dead to ≡ false → Pending (after g w e) next es to (Deliver (Dispatcher s) (Join p c))) → IsJoinUnderway g (after g w e) next es s p
  to_joiner c (Joiner j) is u = (j, Dispatcher s, c, is.0, is.1, u refl)
  to_joiner c _ is u = absurd is

  -- a joiner took the Join
  taken : (j : ℕ) (c : Click) (from : Node) → IsJoiner g j → site_of_joiner g j ≡ s → (l : JoinerLive) → (w.joiners j).live ≡ Some l → IsEnd e (Joiner j) → opened_at w (Joiner j) ≡ Some (Deliver from (Join p c)) → HasFlight g (after g w e) s ⊎ IsTold g (after g w e) next es s p
  taken j c from is site l up end o =
      ⊎_elim
      (λ f. inl (j, (joiner_row g j (w.joiners j)).live, f.0, is, site, ended_own g w e (Joiner j) end, f.1))
      (λ n. inr (Joiner j, n.0, subst (λ t. Pending (after g w e) next es (Dispatcher t) (Deliver (Joiner j) (Joined p (NoQuery n.0)))) site (row_sent_to step (Joiner j) end (Dispatcher (site_of_joiner g j)) (Joined p (NoQuery n.0)) n.1 refl)))
      (subst (Taken g j p) (sym (turned g w (Joiner j) l (Deliver from (Join p c)) up o)) (join_taken g j (w.joiners j).kept l p c from (subst (IfUp (λ (x : JoinerLive). x.number < 2 ^ 64 - 1)) up (step.limits.tokens j is))))

  pub trial_goes_on : TrialGoesOn g w air (e ∷ es) s p → TrialGoesOn g (after g w e) next es s p
  trial_goes_on h = record { up = λ j is. let u = h.up j is in up_after step (Joiner j) u.0 u.1; tried = tried_stays h.tried; goes = moves h.goes }
    where
      l : DispatcherLive
      l = h.tried.0

      row_of : (i : Input) → opened_at w (Dispatcher s) ≡ Some i → dispatcher_row g s (w.dispatchers s) ≡ dispatcher_turn g s (w.dispatchers s).kept l i
      row_of i o = turned g w (Dispatcher s) l i h.tried.1 o

      moves : TrialGoes g w air (e ∷ es) s p → TrialGoes g (after g w e) next es s p
      moves (inl (inl t)) =
          goes step (Dispatcher s) Tick t (λ k. inl (inl k))
          (λ end o.
          let c = tick_sends g s (w.dispatchers s).kept l p h.tried.2 in
          let x = row_sent step (Dispatcher s) end (AnyJoiner s, Join p c.0) (subst (λ (o : Out DispatcherLive). Mem (AnyJoiner s, Join p c.0) o.packets) (sym (row_of Tick o)) c.1) in
          inl (inr (to_joiner c.0 x.0 x.1 x.2)))
      moves (inl (inr (j, from, c, is, site, u))) = goes step (Joiner j) (Deliver from (Join p c)) u (λ k. inl (inr (j, from, c, is, site, k))) (λ end o. let v = h.up j is in inr (taken j c from is site v.0 v.1 end o))
      moves (inr (inl f)) = inr (inl (flight_stays step s f))
      moves (inr (inr (from, n, u))) =
          goes step (Dispatcher s) (Deliver from (Joined p (NoQuery n))) u (λ k. inr (inr (from, n, k)))
          (λ end o. absurd (no_work step (Dispatcher s) l h.tried.1 end (λ x. subst (λ (y : Out DispatcherLive). DispatcherWorks l y.live x) (sym (row_of (Deliver from (Joined p (NoQuery n))) o)) (told_works g s (w.dispatchers s).kept l p n from x h.tried.2))))

-- ---- along an interval

tried_unfinished : (g : Setting) (l : DispatcherLive) (p : ℕ) → IsTried g l p → dispatcher_unfinished l ≡ true
tried_unfinished g l p (inl t) = or_left (some_waits l.fresh) _ (some l.fresh t)
  where
    some : (fs : List Fresh) → waits fs p ≡ true → some_waits fs ≡ true
    some [] e = absurd (true≢false (sym e))
    some (f ∷ fs) e = grind (arith, or_left, some_waits, and_parts, or_right, some fs)
tried_unfinished g l p (inr t) = grind arith

pub tries : (g : Setting) (dead : ℕ → Bool) (w : World) (es : List Entry) → IsIdle g dead w es → (s p : ℕ) → s < 2 → HasTried g w s p → HasFlight g (world_after g w es) s
tries g dead w es i s p lt t = only (along_idle g dead (λ w air es. TrialGoesOn g w air es s p) (λ w air next e es step. trial_goes_on step s p) es w i begins).goes
  where
    v : World
    v = world_after g w es

    begins : TrialGoesOn g w [] es s p
    begins =
        record {
          up = λ j is. let u = up_is _ (w.joiners j).live (i.interval.starts.joiners j is).1 in (u.0, u.1);
          tried = t;
          goes = inl (inl (comes g dead w es i.interval (Dispatcher s) lt (ap (λ (o : Option DispatcherLive). if_up dispatcher_unfinished o) t.1 ∙ tried_unfinished g t.0 p t.2)));
        }

    only : TrialGoes g v [] [] s p → HasFlight g v s
    only h = grind arith
