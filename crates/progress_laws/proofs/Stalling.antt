-- Where nothing is done in an interval that does not begin at rest, a slot is attempted.
use Rattle.std.proofs.Common.{◌≡◌, inl, inr, ⊎_elim, ℕ, ◌<◌, Bool, true, false, ◌||◌, ◌&&◌, ◌==◌, List, ◌∷◌, length, Some, refl, sym, ap, ◌∙◌, subst, arith, [], None, not, is_some, ◌⊎◌, Option}
use Rattle.progress_laws.proofs.Words.{true≢false, and_cases, and_from, or_parts, or_left, eq-eqb, not_from_false, not-false, IsTable, Mem, has, Setting, IsJoiner, shards, site_of_joiner, is_empty, DispatcherLive, Fresh, waits, first_done, has_room, dispatcher_wants, dispatcher_at_rest, JoinerLive, Flight, joiner_at_rest, ServerLive, first_shard, is_free, is_below_limit, may_propose, server_wants, server_at_rest, ShardState, IfUp, World, Entry, after, world_after, UpWith, IsIdle, HasNumbers, IsWithinLimits, is_left, first_is, first_none, up_is}
use Rattle.progress_laws.proofs.Waiting.{IsLeftAt, left_stays}
use Rattle.progress_laws.proofs.Claims.{HasFlight, HasOwnTokens, flight_stays, asks}
use Rattle.progress_laws.proofs.Trying.{HasLines, IsLineAt, IsTried, HasTried, tries}
use Rattle.progress_laws.proofs.Moments.{along_idle}

-- an attempt at the shard's next slot stands, or was refused since the last Tick
abbrev pub IsAttempted : ShardState → Type 0
IsAttempted st = (is_free st.proposal ≡ false) ⊎ (st.held ≡ true)

-- Where nothing is done in an interval: a node that is not at rest where it begins leaves something at its site's server
-- where it ends; and where something is left there, a slot was attempted.
pub record Stalls (g : Setting) (dead : ℕ → Bool) (w : World) (es : List Entry) : Type 0 where
  pub servers : (s : ℕ) → UpWith (λ l. server_at_rest g l ≡ false) (w.servers s).live → IsLeftAt g (world_after g w es) s
  pub joiners : (j : ℕ) → IsJoiner g j → UpWith (λ l. joiner_at_rest l ≡ false) (w.joiners j).live → IsLeftAt g (world_after g w es) (site_of_joiner g j)
  pub dispatchers : (s : ℕ) → s < 2 → UpWith (λ l. dispatcher_at_rest l ≡ false) (w.dispatchers s).live → IsLeftAt g (world_after g w es) s
  pub attempted : (s : ℕ) → s < 2 → (l : ServerLive) → ((world_after g w es).servers s).live ≡ Some l → (k : ℕ) → k < shards g → is_left g (l.shards k) ≡ true → IsAttempted (l.shards k)

not_some : {A : Type 0} (o : Option A) → is_some o ≡ false → o ≡ None
not_some o e = grind arith

-- a quiet dispatcher that is not at rest has tried a line
tried : (g : Setting) (l : DispatcherLive) → ((p : ℕ) → has l.trying p ≡ true → IsLineAt g p) → dispatcher_wants l ≡ false → dispatcher_at_rest l ≡ false → (p : ℕ) × IsTried g l p
tried g l line calm busy = by_fresh l.fresh l.trying refl refl
  where
    by_fresh : (fs : List Fresh) (ps : List ℕ) → l.fresh ≡ fs → l.trying ≡ ps → (p : ℕ) × IsTried g l p
    by_fresh (f ∷ fs) ps e q =
        (f.position, inl (ap (λ x. waits x f.position) e ∙ or_left _ (waits fs f.position) (and_from _ _ (eq-eqb f.position f.position refl) (not_from_false f.done (sym (ap first_done e) ∙ (or_parts (first_done l.fresh) (has_room l && (not (is_empty l.due) || not l.ended)) calm).0)))))
    by_fresh [] (p ∷ ps) e q = let h : has l.trying p ≡ true = ap (λ x. has x p) q ∙ or_left (p == p) (has ps p) (eq-eqb p p refl) in (p, inr (h, line p h))
    by_fresh [] [] e q = grind arith

limits_end : (g : Setting) (es : List Entry) (w : World) → IsWithinLimits g w es → HasNumbers g (world_after g w es)
limits_end g [] w l = l
limits_end g (e ∷ es) w l = limits_end g es (after g w e) l.1

module _ (g : Setting) (dead : ℕ → Bool) (table : IsTable g.config.table) (w : World) (es : List Entry) (i : IsIdle g dead w es) (own : HasOwnTokens g w) (lines : HasLines g w) where
  abbrev v : World
  v = world_after g w es

  joiner_flies : (j : ℕ) → IsJoiner g j → UpWith (λ l. joiner_at_rest l ≡ false) (w.joiners j).live → HasFlight g w (site_of_joiner g j)
  joiner_flies j is u = let x = up_is (λ (l : JoinerLive). joiner_at_rest l ≡ false) (w.joiners j).live u in let f = some x.0.flight x.2 in (j, x.0, f.0, is, refl, x.1, f.1)
    where
      some : (fs : List Flight) → is_empty fs ≡ false → (f : Flight) × Mem f fs
      some [] e = absurd (true≢false e)
      some (f ∷ fs) e = (f, inl refl)

  dispatcher_tried : (s : ℕ) → s < 2 → UpWith (λ l. dispatcher_at_rest l ≡ false) (w.dispatchers s).live → (p : ℕ) × HasTried g w s p
  dispatcher_tried s lt u =
      let x = up_is (λ (l : DispatcherLive). dispatcher_at_rest l ≡ false) (w.dispatchers s).live u in
      let calm = subst (UpWith (λ (l : DispatcherLive). dispatcher_wants l ≡ false)) x.1 (i.interval.starts.dispatchers s lt).1 in
      let t = tried g x.0 (lines s lt x.0 x.1) calm x.2 in
      (t.0, (x.0, x.1, t.1))

  attempted : (s : ℕ) → s < 2 → (l : ServerLive) → ((world_after g w es).servers s).live ≡ Some l → (k : ℕ) → k < shards g → is_left g (l.shards k) ≡ true → IsAttempted (l.shards k)
  attempted s lt l up k below rest =
      ⊎_elim (λ spent. absurd (true≢false (sym (subst (IfUp (λ (l : ServerLive). is_below_limit l.round ≡ true)) up (numbers.rounds s lt)) ∙ spent)))
      (λ none. ⊎_elim
      (λ busy. ⊎_elim (λ a. inl a) (λ a. inr ((not-false (l.shards k).held) a)) (and_cases (is_free (l.shards k).proposal) (not (l.shards k).held) busy))
      (λ idle. ⊎_elim (λ a. absurd (true≢false (sym rest ∙ a))) (λ a. absurd (true≢false (sym (subst (IfUp (λ (l : ServerLive). (k : ℕ) → k < shards g → is_below_limit (length (l.shards k).learned) ≡ true)) up (numbers.slots s lt) k below) ∙ a))) (and_cases (is_left g (l.shards k)) (is_below_limit (length (l.shards k).learned)) idle))
      (and_cases (is_free (l.shards k).proposal && not (l.shards k).held) _ (first_none (λ k. may_propose g (l.shards k)) 0 (shards g) (not_some _ none) k (omega arith) (omega arith))))
      (and_cases (is_below_limit l.round) (is_some (first_shard (λ k. may_propose g (l.shards k)) 0 (shards g))) (subst (UpWith (λ (l : ServerLive). server_wants g l ≡ false)) up (i.interval.ends.servers s lt).1))
    where
      numbers : HasNumbers g (world_after g w es)
      numbers = limits_end g es w i.limits

  pub stalls : Stalls g dead w es
  stalls =
      record {
        servers = λ s u. along_idle g dead (λ w air es. IsLeftAt g w s) (λ w air next e es step. left_stays step s) es w i (grind (arith, first_is));
        joiners = λ j is u. let s = site_of_joiner g j in asks g dead table w es i own s (along_idle g dead (λ w air es. HasFlight g w s) (λ w air next e es step. flight_stays step s) es w i (joiner_flies j is u));
        dispatchers = λ s lt u. let t = dispatcher_tried s lt u in asks g dead table w es i own s (tries g dead w es i s t.0 lt t.1);
        attempted = attempted;
      }
