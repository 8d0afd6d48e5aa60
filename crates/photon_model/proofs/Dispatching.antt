-- Each row of a dispatcher keeps its facts.
use Rattle.std.proofs.Common.{◌≡◌, ◌⊎◌, inl, inr, ⊎_elim, ℕ, ◌<◌, Bool, true, false, cond, ◌==◌, List, [], ◌∷◌, ◌++◌, Some, None, refl, sym, ◌∙◌, subst, arith, MatchBool}
use Rattle.std.proofs.lemmas.Bool.{cond_both, eqb-true, eqb-false, eq-eqb, true≢false, cases_eq}
use Rattle.photon_model.proofs.Words.{ClickLine, at, IsBoundary, first, Mem, Each, has, without, Setting, Checked, Packet, Joined, Outcome, Written, Already, Late, NoQuery, Busy, To, Input, Start, Own, Tick, Deliver, Park, Settle, idle, DispatcherKept, DispatcherLive, Fresh, done_end, after_done, first_done, waits, mark_one, mark, has_room, advances, retries, taken_line as taken, takes, with_room, dispatcher_own, fresh_joins, join_if, trying_joins, dispatcher_tick, ends, parks, dispatcher_joined, dispatcher_gets, dispatcher_turn, dispatcher_start, some_same, clash, option_both, each_append, has_push-or, has_push-left, has_push-right, has_push-false, has_without-true, has_without, has_without-false, has_without-self, distinct_push, distinct_without, at_mem, at_own, before_end, granted_settles, Known, values_of, IsSettled, HasNoQuery, DispatcherSound, HoldsOfOutcome, HoldsOf, HoldsOfInput, IsLineOf, Covers, IsFreshSound, DispatcherHolds, PacketsHold, DispatcherKeeps}

module _ (g : Setting) (n : Known) where
  -- what the lines before e are: pending or settled
  abbrev Passed : List ℕ → ℕ → Type 0
  Passed pending e = (l : ClickLine) → Mem l g.clicks → l.place < e → (has pending l.place ≡ true) ⊎ IsSettled g n l.click.id

  -- from e on the fresh entries lead to p, and all before e is passed
  record Behind (pending : List ℕ) (e : ℕ) (fs : List Fresh) (p : ℕ) : Type 0 where
    pub boundary : IsBoundary g.clicks e
    pub passed : Passed pending e
    pub covers : Covers g n e fs p
    pub each : Each (IsFreshSound g n pending) fs

  abbrev line_of : Fresh → ClickLine
  line_of f = record { place = f.position; end_ = f.end_; click = f.click }

  passes : Checked g → (pending : List ℕ) (e : ℕ) (f : Fresh) → IsLineOf g n f → f.position ≡ e → Passed pending e → (has pending f.position ≡ true) ⊎ IsSettled g n f.click.id → Passed pending f.end_
  passes c pending e f is at_e h s l m lt =
      ⊎_elim
      (λ (q : l.place < f.position). h l m (subst (λ x. l.place < x) at_e q))
      (λ (q : l ≡ line_of f). subst (λ (x : ClickLine). (has pending x.place ≡ true) ⊎ IsSettled g n x.click.id) (sym q) s)
      (before_end g.clicks 0 (line_of f) l c.follow (at_mem g.clicks f.position (line_of f) is).0 m lt)

  skips : Checked g → (pending : List ℕ) (e : ℕ) (fs : List Fresh) (p : ℕ) → Behind pending e fs p → Behind pending (done_end e fs) (after_done fs) p
  skips c pending e [] p b = b
  skips c pending e (f ∷ fs) p b = go (λ b'. skips c pending f.end_ fs p b') f.done refl
    where
      go : (Behind pending f.end_ fs p → Behind pending (done_end f.end_ fs) (after_done fs) p) → (d : Bool) → f.done ≡ d → Behind pending (cond d (done_end f.end_ fs) e) (cond d (after_done fs) (f ∷ fs)) p
      go ih true d =
          ih (record {
            boundary = inr (line_of f, (at_mem g.clicks f.position (line_of f) b.covers.1).0, refl);
            passed = passes c pending e f b.covers.1 b.covers.0 b.passed (subst (λ x. MatchBool x ((has pending f.position ≡ true) ⊎ IsSettled g n f.click.id) (has pending f.position ≡ false)) d b.each.0);
            covers = b.covers.2;
            each = b.each.1;
          })
      go ih false d = b

  module _ (k : DispatcherKept) (l : DispatcherLive) (sound : DispatcherSound g n k) (holds : DispatcherHolds g n k l) where
    -- where neither disks nor state change
    idles : DispatcherKeeps g n k (idle l)
    idles = record { kept = sound; live = holds; packets = tt }

    advance_keeps : (s : ℕ) → Checked g → DispatcherKeeps g n k (advances g s k l)
    advance_keeps s c =
        let b = skips c k.pending k.offset l.fresh l.place (record { boundary = sound.boundary; passed = sound.passed; covers = holds.covers; each = holds.each }) in
        grind arith

    -- the first due position is tried
    retry_keeps : (s p : ℕ) (ps : List ℕ) → l.due ≡ p ∷ ps → DispatcherKeeps g n k (retries g s k l p ps (at g.clicks p))
    retry_keeps s p ps e = grind (arith, idles, eq-eqb, has_push-or, distinct_push, clash, has_push-left, has_push-right)

  covers_push : (e : ℕ) (fs : List Fresh) (p : ℕ) (f : Fresh) → Covers g n e fs p → f.position ≡ p → IsLineOf g n f → Covers g n e (fs ++ f ∷ []) f.end_
  covers_push e [] p f v at_p is = (at_p ∙ sym v, is, refl)
  covers_push e (x ∷ fs) p f v at_p is = (v.0, v.1, covers_push x.end_ fs p f v.2 at_p is)

  same_line : (p : ℕ) (x y : ClickLine) → at g.clicks p ≡ Some x → at g.clicks p ≡ Some y → x ≡ y
  same_line p x y a b = some_same x y (sym a ∙ b)

  -- an entry that is not done is not pending
  waits_free : (pending : List ℕ) (fs : List Fresh) (p : ℕ) → Each (IsFreshSound g n pending) fs → waits fs p ≡ true → has pending p ≡ false
  waits_free pending [] p r h = absurd (true≢false (sym h))
  waits_free pending (f ∷ fs) p r h = grind (arith, waits_free pending fs p r.1)

  -- entries after the one at p is done, and after the pending list has changed at p
  module _ (pending later : List ℕ) (p : ℕ) (x : ClickLine) (is : at g.clicks p ≡ Some x) (now : (has later p ≡ true) ⊎ IsSettled g n x.click.id)
      (more : (q : ℕ) → (q ≡ p → ⊥) → has pending q ≡ true → has later q ≡ true) (fewer : (q : ℕ) → (q ≡ p → ⊥) → has pending q ≡ false → has later q ≡ false) where
    at_p : (f : Fresh) → IsLineOf g n f → f.position ≡ p → (has later f.position ≡ true) ⊎ IsSettled g n f.click.id
    at_p f line e =
        let same : line_of f ≡ x = same_line p (line_of f) x (subst (λ q. at g.clicks q ≡ Some (line_of f)) e line) is in
        ⊎_elim (λ a. inl (subst (λ q. has later q ≡ true) (sym e) a)) (λ a. inr (subst (λ (y : ClickLine). IsSettled g n y.click.id) (sym same) a)) now

    elsewhere : (f : Fresh) → (f.position ≡ p → ⊥) → IsFreshSound g n pending f → IsFreshSound g n later f
    elsewhere f ne r = go f.done r
      where
        go : (d : Bool) → MatchBool d ((has pending f.position ≡ true) ⊎ IsSettled g n f.click.id) (has pending f.position ≡ false) → MatchBool d ((has later f.position ≡ true) ⊎ IsSettled g n f.click.id) (has later f.position ≡ false)
        go true h = ⊎_elim (λ a. inl (more f.position ne a)) (λ a. inr a) h
        go false h = fewer f.position ne h

    one_marked : (f : Fresh) → IsLineOf g n f → IsFreshSound g n pending f → IsFreshSound g n later (mark_one p f)
    one_marked f line r = cond_both (f.position == p) (record f { done = true }) f (IsFreshSound g n later) (λ e. at_p f line (eqb-true f.position p e)) (λ e. elsewhere f (eqb-false f.position p e) r)

    marked : (e : ℕ) (fs : List Fresh) (q : ℕ) → Covers g n e fs q → Each (IsFreshSound g n pending) fs → Covers g n e (mark fs p) q × Each (IsFreshSound g n later) (mark fs p)
    marked e [] q v r = (v, tt)
    marked e (f ∷ fs) q v r =
        let rest = marked f.end_ fs q v.2 r.1 in
        (cond_both (f.position == p) (record f { done = true }) f (λ (y : Fresh). Covers g n e (y ∷ mark fs p) q) (λ _. (v.0, v.1, rest.0)) (λ _. (v.0, v.1, rest.0)), (one_marked f v.1 r.0, rest.1))

    -- entries where only the pending list has changed at p, and what was pending there is settled
    changed : (e : ℕ) (fs : List Fresh) (q : ℕ) → (has later p ≡ false) → Covers g n e fs q → Each (IsFreshSound g n pending) fs → Each (IsFreshSound g n later) fs
    changed e [] q gone v r = tt
    changed e (f ∷ fs) q gone v r = (⊎_elim (λ a. here a f.done r.0) (λ a. elsewhere f a r.0) (cases_eq f.position p), changed f.end_ fs q gone v.2 r.1)
      where
        here : f.position ≡ p → (d : Bool) → MatchBool d ((has pending f.position ≡ true) ⊎ IsSettled g n f.click.id) (has pending f.position ≡ false) → MatchBool d ((has later f.position ≡ true) ⊎ IsSettled g n f.click.id) (has later f.position ≡ false)
        here a true h = at_p f v.1 a
        here a false h = subst (λ y. has later y ≡ false) (sym a) gone

  module _ (k : DispatcherKept) (l : DispatcherLive) (sound : DispatcherSound g n k) (holds : DispatcherHolds g n k l) where
    -- a new line is taken
    take_keeps : (s : ℕ) → Checked g → l.ended ≡ false → DispatcherKeeps g n k (takes g s k l (at g.clicks l.place))
    take_keeps s c open_ = option_both (at g.clicks l.place) (takes g s k l) (DispatcherKeeps g n k) found none
      where
        none : at g.clicks l.place ≡ None → DispatcherKeeps g n k (takes g s k l None)
        none e = record { kept = sound; live = record { covers = holds.covers; each = holds.each; due_pending = holds.due_pending; trying_pending = holds.trying_pending; due_once = holds.due_once; trying_once = holds.trying_once; apart = holds.apart; others = holds.others; at_end = λ _. e }; packets = tt }

        state : (x : ClickLine) → at g.clicks l.place ≡ Some x → (d : Bool) → MatchBool d ((has k.pending x.place ≡ true) ⊎ IsSettled g n x.click.id) (has k.pending x.place ≡ false) → DispatcherHolds g n k (taken g s k l x d)
        state x e d r =
            let m = at_mem g.clicks l.place x e in
            record {
              covers = covers_push k.offset l.fresh l.place (record { position = x.place; end_ = x.end_; click = x.click; done = d }) holds.covers m.1 (at_own g.clicks 0 x c.follow m.0);
              each = each_append (IsFreshSound g n k.pending) l.fresh _ holds.each (r, tt);
              due_pending = holds.due_pending;
              trying_pending = holds.trying_pending;
              due_once = holds.due_once;
              trying_once = holds.trying_once;
              apart = holds.apart;
              others = holds.others;
              at_end = λ t. clash l.ended t open_;
            }

        found : (x : ClickLine) → at g.clicks l.place ≡ Some x → DispatcherKeeps g n k (takes g s k l (Some x))
        found x e = grind (arith, state, at_mem)

    own_keeps : (s : ℕ) → Checked g → DispatcherKeeps g n k (dispatcher_own g s k l)
    own_keeps s c =
        cond_both (first_done l.fresh) _ _ (DispatcherKeeps g n k)
        (λ _. advance_keeps k l sound holds s c)
        (λ _. cond_both (has_room l) _ _ (DispatcherKeeps g n k) (λ _. roomy l.due refl) (λ _. idles k l sound holds))
      where
        roomy : (due : List ℕ) → l.due ≡ due → DispatcherKeeps g n k (with_room g s k l due)
        roomy [] e = cond_both l.ended (idle l) _ (DispatcherKeeps g n k) (λ _. idles k l sound holds) (λ f. take_keeps s c f)
        roomy (p ∷ ps) e = retry_keeps k l sound holds s p ps e

    fresh_hold : (s e : ℕ) (fs : List Fresh) (q : ℕ) → Covers g n e fs q → PacketsHold g n (fresh_joins g s k l fs)
    fresh_hold s e [] q v = tt
    fresh_hold s e (f ∷ fs) q v = let rest = fresh_hold s f.end_ fs q v.2 in cond_both f.done _ _ (PacketsHold g n) (λ _. rest) (λ _. ((line_of f, v.1, refl), rest))

    trying_hold : (s : ℕ) (ps : List ℕ) → PacketsHold g n (trying_joins g s k l ps)
    trying_hold s [] = tt
    trying_hold s (p ∷ ps) = let rest = trying_hold s ps in option_both (at g.clicks p) (λ o. join_if g s k l p o (trying_joins g s k l ps)) (PacketsHold g n) (λ x e. ((x, e, refl), rest)) (λ _. rest)

    tick_keeps : (s : ℕ) → DispatcherKeeps g n k (dispatcher_tick g s k l)
    tick_keeps s = record { kept = sound; live = holds; packets = each_append (λ (a : To × Packet). HoldsOf g n a.1) (fresh_joins g s k l l.fresh) (trying_joins g s k l l.trying) (fresh_hold s k.offset l.fresh l.place holds.covers) (trying_hold s l.trying) }

    -- the join at p has ended, and its id is settled
    end_keeps : (s p : ℕ) (x : ClickLine) → Checked g → at g.clicks p ≡ Some x → IsSettled g n x.click.id → DispatcherKeeps g n k (ends g s k l p)
    end_keeps s p x c is now =
        cond_both (waits l.fresh p) _ _ (DispatcherKeeps g n k)
        (λ w. let m = marked k.pending k.pending p x is (inr now) (λ q ne h. h) (λ q ne h. h) k.offset l.fresh l.place holds.covers holds.each in
        record {
          kept = sound;
          live = record { covers = m.0; each = m.1; due_pending = holds.due_pending; trying_pending = holds.trying_pending; due_once = holds.due_once; trying_once = holds.trying_once; apart = holds.apart; others = holds.others; at_end = holds.at_end };
          packets = tt;
        })
        (λ _. cond_both (has l.trying p) _ _ (DispatcherKeeps g n k) settled (λ _. idles k l sound holds))
      where
        pass : (m : ClickLine) → Mem m g.clicks → (has k.pending m.place ≡ true) ⊎ IsSettled g n m.click.id → (has (without k.pending p) m.place ≡ true) ⊎ IsSettled g n m.click.id
        pass m i h =
            ⊎_elim
            (λ (e : m.place ≡ p). inr (subst (λ (y : ClickLine). IsSettled g n y.click.id) (same_line p x m is (subst (λ q. at g.clicks q ≡ Some m) e (at_own g.clicks 0 m c.follow i))) now))
            (λ ne. ⊎_elim (λ a. inl (has_without k.pending p m.place a ne)) (λ a. inr a) h)
            (cases_eq m.place p)

        settled : has l.trying p ≡ true → DispatcherKeeps g n k (record { note = Some (Settle p); packets = []; live = record l { trying = without l.trying p } })
        settled t =
            record {
              kept = record { boundary = sound.boundary; starts = λ q h. sound.starts q (has_without-true k.pending p q h).0; once = distinct_without k.pending p sound.once; passed = λ m i lt. pass m i (sound.passed m i lt) };
              live = record {
                covers = holds.covers;
                each = changed k.pending (without k.pending p) p x is (inr now) (λ q ne h. has_without k.pending p q h ne) (λ q ne h. has_without-false k.pending p q h) k.offset l.fresh l.place (has_without-self k.pending p) holds.covers holds.each;
                due_pending = λ q h. has_without k.pending p q (holds.due_pending q h) (λ e. clash (has l.trying p) t (holds.apart p (subst (λ y. has l.due y ≡ true) e h)));
                trying_pending = λ q h. let r = has_without-true l.trying p q h in has_without k.pending p q (holds.trying_pending q r.0) r.1;
                due_once = holds.due_once;
                trying_once = distinct_without l.trying p holds.trying_once;
                apart = λ q h. has_without-false l.trying p q (holds.apart q h);
                others = λ q h. let r = has_without-true k.pending p q h in ⊎_elim (λ a. inl (⊎_elim (λ d. inl d) (λ y. inr (has_without l.trying p q y r.1)) a)) (λ a. inr a) (holds.others q r.0);
                at_end = holds.at_end;
              };
              packets = tt;
            }

    -- the click at p has no query yet
    park_keeps : (s p : ℕ) (x : ClickLine) → at g.clicks p ≡ Some x → first g.queries x.click.query ≡ None → DispatcherKeeps g n k (parks g s k l p)
    park_keeps s p x is missing =
        cond_both (waits l.fresh p) _ _ (DispatcherKeeps g n k) parked
        (λ _. cond_both (has l.trying p) _ _ (DispatcherKeeps g n k)
        (λ t. record {
          kept = sound;
          live = record {
            covers = holds.covers;
            each = holds.each;
            due_pending = holds.due_pending;
            trying_pending = λ q h. holds.trying_pending q (has_without-true l.trying p q h).0;
            due_once = holds.due_once;
            trying_once = distinct_without l.trying p holds.trying_once;
            apart = λ q h. has_without-false l.trying p q (holds.apart q h);
            others = λ q h. ⊎_elim (λ a. ⊎_elim (λ d. inl (inl d)) (λ y. ⊎_elim (λ e. inr (none_at q e)) (λ ne. inl (inr (has_without l.trying p q y ne))) (cases_eq q p)) a) (λ a. inr a) (holds.others q h);
            at_end = holds.at_end;
          };
          packets = tt;
        })
        (λ _. idles k l sound holds))
      where
        none_at : (q : ℕ) → q ≡ p → HasNoQuery g q
        none_at q e = (x, subst (λ y. at g.clicks y ≡ Some x) (sym e) is, missing)

        parked : waits l.fresh p ≡ true → DispatcherKeeps g n k (record { note = Some (Park p); packets = []; live = record l { fresh = mark l.fresh p } })
        parked w =
            let m = marked k.pending (k.pending ++ p ∷ []) p x is (inl (has_push-right k.pending p)) (λ q ne h. has_push-left k.pending p q h) (λ q ne h. has_push-false k.pending p q h (λ e. ne (sym e))) k.offset l.fresh l.place holds.covers holds.each in
            record {
              kept = record {
                boundary = sound.boundary;
                starts = λ q h. ⊎_elim (λ a. sound.starts q a) (λ e. (x, subst (λ y. at g.clicks y ≡ Some x) e is)) (has_push-or k.pending p q h);
                once = distinct_push k.pending p sound.once (waits_free k.pending l.fresh p holds.each w);
                passed = λ y i lt. ⊎_elim (λ a. inl (has_push-left k.pending p y.place a)) (λ a. inr a) (sound.passed y i lt);
              };
              live = record {
                covers = m.0;
                each = m.1;
                due_pending = λ q h. has_push-left k.pending p q (holds.due_pending q h);
                trying_pending = λ q h. has_push-left k.pending p q (holds.trying_pending q h);
                due_once = holds.due_once;
                trying_once = holds.trying_once;
                apart = holds.apart;
                others = λ q h. ⊎_elim (λ a. holds.others q a) (λ e. inr (none_at q (sym e))) (has_push-or k.pending p q h);
                at_end = holds.at_end;
              };
              packets = tt;
            }

    joined_keeps : (s p : ℕ) (o : Outcome) (x : ClickLine) → Checked g → at g.clicks p ≡ Some x → HoldsOfOutcome g n x o → DispatcherKeeps g n k (dispatcher_joined g s k l p o)
    joined_keeps s p Written x c is h = end_keeps s p x c is (inr h)
    joined_keeps s p (Already t) x c is h = end_keeps s p x c is (inl (granted_settles (values_of g n x.click.id) x.click.id t h))
    joined_keeps s p (Late b) x c is h = end_keeps s p x c is (inl (inr (let a = h.0 in let d = h.1 in omega arith)))
    joined_keeps s p (NoQuery m) x c is h = park_keeps s p x is h.1
    joined_keeps s p Busy x c is h = idles k l sound holds

    gets_keeps : (s : ℕ) (packet : Packet) → Checked g → HoldsOf g n packet → DispatcherKeeps g n k (dispatcher_gets g s k l packet)
    gets_keeps s (Joined p o) c h = joined_keeps s p o h.0 c h.1 h.2
    gets_keeps s _ c h = idles k l sound holds

pub dispatcher_keeps : (g : Setting) (n : Known) (s : ℕ) (k : DispatcherKept) (l : DispatcherLive) (i : Input) → Checked g → DispatcherSound g n k → DispatcherHolds g n k l → HoldsOfInput g n i → DispatcherKeeps g n k (dispatcher_turn g s k l i)
dispatcher_keeps g n s k l Own c sound holds h = own_keeps g n k l sound holds s c
dispatcher_keeps g n s k l Tick c sound holds h = tick_keeps g n k l sound holds s
dispatcher_keeps g n s k l (Deliver from packet) c sound holds h = gets_keeps g n k l sound holds s packet c h
dispatcher_keeps g n s k l Start c sound holds h = idles g n k l sound holds

pub dispatcher_start_keeps : (g : Setting) (n : Known) (k : DispatcherKept) → DispatcherSound g n k → DispatcherKeeps g n k (dispatcher_start k)
dispatcher_start_keeps g n k sound = grind arith
