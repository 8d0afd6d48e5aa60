-- An idle interval that begins with work left ends with a server held, by a promise that is older than the interval.
use Rattle.std.proofs.Common.{◌≡◌, ◌⊎◌, inl, inr, ⊎_elim, ℕ, zero, suc, ◌+◌, ◌*◌, ◌<◌, ◌≤◌, Bool, true, false, not, ◌||◌, List, [], length, Some, None, refl, sym, ap, ◌∙◌, subst, arith, Option}
use Rattle.progress_laws.proofs.Words.{true≢false, cases_Bool, cases_lt, or_left, or_right, Ballot, Majority, upto_trans, not_above, Batch, Place, none_some, some_same, Setting, IsJoiner, first_joiner, shards, site_of_joiner, IsNode, Node, Dispatcher, Server, Replica, Joiner, Tick, Deliver, DispatcherLive, dispatcher_at_rest, JoinerLive, joiner_at_rest, ServerLive, ShardState, is_free, server_at_rest, AllFactsHold, World, Entry, Disks, world_after, opening, UpWith, IsAtRest, IsQuiet, Insert, each_at, known, WorldHolds, IsTable, IsIdle, is_left, next_of, promise_at, IsHeldAt, IsRefusedFrom, up_is}
use Rattle.progress_laws.proofs.Moments.{opened_at, along_idle, Pending, quiet_closed, comes, SitesUp}
use Rattle.progress_laws.proofs.Turning.{ballot_in, Same}
use Rattle.progress_laws.proofs.Waiting.{IsLeftAt, still_left, server_waits}
use Rattle.progress_laws.proofs.Lasting.{OfAllShards, HasCause, cause_kept, after_run}
use Rattle.progress_laws.proofs.Claims.{site_below}
use Rattle.progress_laws.proofs.Trying.{HasLines}
use Rattle.progress_laws.proofs.Stalling.{Stalls, stalls}
use Rattle.progress_laws.proofs.Refusing.{unfinished_at, no_attempt, every_attempt_open}
use Rattle.progress_laws.proofs.Greatest.{UpTo, Promised, IsMade, MoreOfBoth, with_both}
use Rattle.progress_laws.proofs.Dueling.{Duel, IsTrying, duel_goes_on, below_round, upto_round, raised}

-- of all numbers below n P holds, or Q does
every : (P : ℕ → Type 0) (Q : Type 0) (n : ℕ) → ((j : ℕ) → j < n → P j ⊎ Q) → ((j : ℕ) → j < n → P j) ⊎ Q
every P Q zero h = inl (λ j lt. absurd (omega (arith, lt)))
every P Q (suc n) h =
    ⊎_elim
    (λ below. ⊎_elim
    (λ last. inl (λ j lt. ⊎_elim (λ b. below j b) (λ ge. subst P (let e : n ≡ j = omega (arith, lt, ge) in e) last) (cases_lt j n)))
    (λ q. inr q)
    (h n (omega arith)))
    (λ q. inr q)
    (every P Q n (λ j lt. h j (omega (arith, lt))))

-- where all nodes that take part are quiet no turn of a node is open
all_closed : (g : Setting) (dead : ℕ → Bool) (w : World) → IsQuiet g dead w → (n : Node) → IsNode g n → opened_at w n ≡ None
all_closed g dead w q (Dispatcher s) is = quiet_closed g dead w q (Dispatcher s) is refl
all_closed g dead w q (Server s) is = quiet_closed g dead w q (Server s) is refl
all_closed g dead w q (Joiner j) is = quiet_closed g dead w q (Joiner j) is refl
all_closed g dead w q (Replica r) is = ⊎_elim (λ out. q.silent r is out) (λ live. quiet_closed g dead w q (Replica r) is live) (cases_Bool (dead r))

-- what stands of flights and lines after every run
module _ (g : Setting) (w : World) (drawn : List Insert) (h : WorldHolds g w drawn) where
  lines : HasLines g w
  lines s lt l up p t = grind arith

module _ (g : Setting) (d : Disks) (run : List Entry) (facts : AllFactsHold g (world_after g (opening d) run)) (dead : ℕ → Bool) (es : List Entry) (table : IsTable g.config.table) (most : Majority g.config.replicas (λ r. dead r ≡ false)) (i : IsIdle g dead (world_after g (opening d) run) es) where
  abbrev w : World
  w = world_after g (opening d) run

  abbrev v : World
  v = world_after g w es

  all : Stalls g dead w es
  all = grind (arith, stalls, known, each_at, lines)

  causes : OfAllShards (HasCause g) w
  causes = after_run g (HasCause g) (λ b e. none_some b e) (cause_kept g) d run

  servers_up : SitesUp w
  servers_up s lt = let u = up_is _ (w.servers s).live (i.interval.starts.servers s lt).1 in (u.0, u.1)

  -- ---- one place, and a server that has something to do there

  module _ (at : Place) (below : at.shard < shards g) (site low : ℕ) (lt : site < 2) (l : ServerLive) (is_up : (w.servers site).live ≡ Some l) (place : next_of at.shard (l.shards at.shard) ≡ at) where
    begins : (((l.shards at.shard).proposal ≡ None) × (low ≤ suc l.round)) ⊎ (low ≡ 0) → Duel g dead w at site low w [] es
    begins start =
        record {
          most = all_made.0;
          up = servers_up;
          causes = causes;
          promises = λ r lt live. inl refl;
          packets = λ x is u. ⊎_elim (λ m. absurd m) (λ o. none_some (Deliver x.from x.packet) (sym (all_closed g dead w i.interval.starts x.to is) ∙ o)) u;
          attempts = all_made.3;
          made = all_made.2;
          trying = ⊎_elim (λ h. inl (l, is_up, place, ap ballot_in h.0, h.1, waits)) (λ h. by_ballot (ballot_in (l.shards at.shard).proposal) refl h) start;
        }
      where
        all_made : MoreOfBoth g dead w at w None
        all_made = with_both g dead w at w None servers_up causes (λ u e. none_some u e)

        waits : Pending w [] es (Server site) Tick ⊎ ((l.shards at.shard).held ≡ false)
        waits =
            ⊎_elim
            (λ held. inl (comes g dead w es i.interval (Server site) lt (unfinished_at g w site l is_up at.shard below (or_left (not (is_free (l.shards at.shard).proposal) || (l.shards at.shard).held) _ (or_right (not (is_free (l.shards at.shard).proposal)) (l.shards at.shard).held held)))))
            (λ free. inr free)
            (cases_Bool (l.shards at.shard).held)

        by_ballot : (o : Option Ballot) → ballot_in (l.shards at.shard).proposal ≡ o → low ≡ 0 → IsTrying g dead w at site low w [] es all_made.0
        by_ballot None e zero_ = inl (l, is_up, place, e, omega (arith, zero_), waits)
        by_ballot (Some b) e zero_ = inr (raised all_made.0 b low (all_made.3 site lt l is_up b (place, e)) (omega (arith, zero_)))

    -- at the end a server is held there, by an old promise
    pub refused_from : (((l.shards at.shard).proposal ≡ None) × (low ≤ suc l.round)) ⊎ (low ≡ 0) → ((m : ServerLive) → (v.servers site).live ≡ Some m → is_left g (m.shards at.shard) ≡ true) → IsRefusedFrom g dead w v at low
    refused_from start left = by_trying ends.trying
      where
        ends : Duel g dead w at site low v [] []
        ends = along_idle g dead (Duel g dead w at site low) (λ w' air next e es step h. duel_goes_on g dead w at site low step h lt) es w i (begins start)

        none_stands : (s : ℕ) → s < 2 → (m : ServerLive) → (v.servers s).live ≡ Some m → (m.shards at.shard).proposal ≡ None
        none_stands s slt m now = no_attempt g dead w es most i (every_attempt_open g d run) s slt m now at.shard below

        held_back : (s : ℕ) → s < 2 → (m : ServerLive) → (v.servers s).live ≡ Some m → is_left g (m.shards at.shard) ≡ true → (m.shards at.shard).held ≡ true
        held_back s slt m now more =
            ⊎_elim
            (λ busy. absurd (true≢false (sym (ap is_free (none_stands s slt m now)) ∙ busy)))
            (λ h. h)
            (all.attempted s slt m now at.shard below more)

        by_made : (u : Ballot) → ends.most ≡ Some u → low ≤ u.round → IsMade g dead w at v u → IsRefusedFrom g dead w v at low
        by_made u is le (s, m, slt, now, here, more, inl stands) = none_some u (sym (ap ballot_in (none_stands s slt m now)) ∙ stands)
        by_made u is le (s, m, slt, now, here, more, inr (r, c, rlt, takes_part, older, under, round_up)) = (
          s,
          suc m.round,
          record { site = slt; live = m; up = now; shard = below; next = here; left = more; held = held_back s slt m now more; free = none_stands s slt m now; round = refl },
          record {
            replica = r;
            member = rlt;
            live = takes_part;
            ballot = c;
            was = older;
            is = still (ends.promises r rlt takes_part);
            higher = omega (arith, le, above);
            reached = omega (arith, round_up);
            others = λ q qlt qlive. other q (ends.promises q qlt qlive);
          },
        )
          where
            above : u.round ≤ c.round
            above = below_round u c under

            still : Promised ends.most (promise_at w r at) (promise_at v r at) → promise_at v r at ≡ Some c
            still h = grind (arith, not_above, upto_trans)

            other : (q : ℕ) → Promised ends.most (promise_at w q at) (promise_at v q at) → (promise_at v q at ≡ promise_at w q at) ⊎ ((b : Ballot) → promise_at v q at ≡ Some b → b.round < suc m.round)
            other q (inl same) = inl same
            other q (inr (b, now_is, k, from_old)) = inr (λ b' e. let same : b'.round ≡ b.round = ap (λ (x : Ballot). x.round) (some_same b' b (sym e ∙ now_is)) in let low_ = upto_round b u (subst (λ o. UpTo o b) is k) in omega (arith, same, low_, above, round_up))

        by_trying : IsTrying g dead w at site low v [] [] ends.most → IsRefusedFrom g dead w v at low
        by_trying h = grind (arith, by_made, held_back)

  -- ---- what stays so in one shard

  abbrev HasIn : (ShardState → Type 0) → ℕ → ℕ → World → Type 0
  HasIn P s k x = (m : ServerLive) × ((x.servers s).live ≡ Some m) × P (m.shards k)

  stays_in : (P : ShardState → Type 0) → ((st now : ShardState) → Same st now → P st → P now) → (s k : ℕ) → HasIn P s k w → HasIn P s k v
  stays_in P keeps s k h =
      along_idle g dead (λ x air es. HasIn P s k x)
      (λ x air next e es step h. let m = server_waits step s h.0 h.1 in (m.0, m.1, keeps (h.0.shards k) (m.0.shards k) (m.2 k) h.2))
      es w i h

  -- a server that is held ends held, by a promise not below the round that it drew
  pub held_again : (s n : ℕ) (at : Place) → IsHeldAt g w s at n → IsRefusedFrom g dead w v at n
  held_again s n at h =
      refused_from at h.shard s n h.site h.live h.up h.next (inl (h.free, let e = h.round in omega (arith, e)))
      (λ m now. let x = stays_in (λ st. is_left g st ≡ true) (still_left g) s at.shard (h.live, h.up, h.left) in subst (λ (m : ServerLive). is_left g (m.shards at.shard) ≡ true) (some_same x.0 m (sym x.1 ∙ now)) x.2)

  abbrev pub SomeRefused : Type 0
  SomeRefused = (at : Place) × IsRefusedFrom g dead w v at 0

  -- where something is left at the end, a server is held
  pub left_refused : (s : ℕ) → s < 2 → (m : ServerLive) → (v.servers s).live ≡ Some m → (k : ℕ) → k < shards g → is_left g (m.shards k) ≡ true → IsRefusedFrom g dead w v (next_of k (m.shards k)) 0
  left_refused s lt m now k below left =
      refused_from (next_of k (m.shards k)) below s 0 lt u.0 u.1 (ap (λ (vs : List Batch). record { shard = k; slot = length vs }) (sym learned)) (inr refl)
      (λ m' now'. subst (λ (x : ServerLive). is_left g (x.shards k) ≡ true) (some_same m m' (sym now ∙ now')) left)
    where
      u : (l : ServerLive) × ((w.servers s).live ≡ Some l)
      u = servers_up s lt

      learned : (m.shards k).learned ≡ (u.0.shards k).learned
      learned =
          let x = stays_in (λ st. st.learned ≡ (u.0.shards k).learned) (λ st now same e. same.0 ∙ e) s k (u.0, u.1, refl) in
          subst (λ (z : ServerLive). (z.shards k).learned ≡ (u.0.shards k).learned) (some_same x.0 m (sym x.1 ∙ now)) x.2

  some_refused : (s : ℕ) → s < 2 → IsLeftAt g v s → SomeRefused
  some_refused s lt (m, now, (k, below, left)) = (next_of k (m.shards k), left_refused s lt m now k below left)

  -- ---- a node is at rest, or something is left at its site's server

  tested : {L : Type 0} (P : L → Type 0) (test : L → Bool) (o : Option L) → UpWith P o → UpWith (λ l. test l ≡ true) o ⊎ UpWith (λ l. test l ≡ false) o
  tested P test o u = grind arith

  joiner_rests : (j : ℕ) → j < first_joiner g + 2 * g.config.joiners → (IsJoiner g j → UpWith (λ (l : JoinerLive). joiner_at_rest l ≡ true) (w.joiners j).live) ⊎ SomeRefused
  joiner_rests j lt =
      ⊎_elim
      (λ low. inl (λ is. let ge = is.0 in absurd (omega (arith, low, ge))))
      (λ ge. ⊎_elim (λ t. inl (λ is. t)) (λ f. inr (some_refused (site_of_joiner g j) (site_below g j) (all.joiners j (ge, lt) f))) (tested _ joiner_at_rest (w.joiners j).live (i.interval.starts.joiners j (ge, lt)).1))
      (cases_lt j (first_joiner g))

  pub rests_or_refused : IsAtRest g w ⊎ SomeRefused
  rests_or_refused =
      ⊎_elim
      (λ ds. ⊎_elim
      (λ ss. ⊎_elim
      (λ js. inl (record { dispatchers = ds; joiners = λ j is. js j is.1 is; servers = ss }))
      (λ q. inr q)
      (every (λ j. IsJoiner g j → UpWith (λ (l : JoinerLive). joiner_at_rest l ≡ true) (w.joiners j).live) SomeRefused (first_joiner g + 2 * g.config.joiners) joiner_rests))
      (λ q. inr q)
      (every (λ s. UpWith (λ (l : ServerLive). server_at_rest g l ≡ true) (w.servers s).live) SomeRefused 2
      (λ s lt. ⊎_elim (λ t. inl t) (λ f. inr (some_refused s lt (all.servers s f))) (tested _ (server_at_rest g) (w.servers s).live (i.interval.starts.servers s lt).1))))
      (λ q. inr q)
      (every (λ s. UpWith (λ (l : DispatcherLive). dispatcher_at_rest l ≡ true) (w.dispatchers s).live) SomeRefused 2
      (λ s lt. ⊎_elim (λ t. inl t) (λ f. inr (some_refused s lt (all.dispatchers s lt f))) (tested _ dispatcher_at_rest (w.dispatchers s).live (i.interval.starts.dispatchers s lt).1)))
