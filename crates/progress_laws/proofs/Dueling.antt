-- Each entry of an idle interval keeps what is known of the greatest attempt at a place.
use Rattle.std.proofs.Common.{◌≡◌, ◌⊎◌, inl, inr, ⊎_elim, ℕ, suc, ◌<◌, ◌≤◌, Bool, false, List, ◌∷◌, length, Some, None, refl, sym, ap, ◌∙◌, subst, arith, Option}
use Rattle.progress_laws.proofs.Words.{Ballot, IsBelow, IsUpTo, not_above, Batch, Place, Each, none_some, some_same, Setting, IsNode, Sent, Out, land, Packet, Prepare, Accept, Nack, Node, Dispatcher, Server, Replica, Joiner, To, Input, Tick, Deliver, ServerLive, ReplicaKept, cell_at, land_replica, World, Entry, server_row, replica_row, after, IsPlain, dispatcher_row_plain, joiner_row_plain, next_of, promise_at}
use Rattle.progress_laws.proofs.Moments.{opened_at, IsEnd, Step, Pending, IsSent, SitesUp, turned, ended_own, lives, sites_up, ends, kept_after, by_row, goes, was_pending, each_of_row}
use Rattle.progress_laws.proofs.Turning.{ballot_in, Same, Fate, Keeps, Asks}
use Rattle.progress_laws.proofs.Waiting.{still_left, CalmTurn, calm_turn}
use Rattle.progress_laws.proofs.Lasting.{OfAllShards, HasCause, cause_kept, lasts}
use Rattle.progress_laws.proofs.Rising.{AsksAt, Says, says, Rises, rises, after_turn}
use Rattle.progress_laws.proofs.Greatest.{UpTo, Promised, promised_more, promised_is, Fine, fine_grows, plain_fine, asks_fine, IsRefusedBy, IsMade, AttemptUpTo, MoreOfBoth, with_both}

-- the rounds of ballots in order
pub below_round : (a b : Ballot) → IsBelow a b → a.round ≤ b.round
below_round a b h = grind arith

pub upto_round : (a b : Ballot) → IsUpTo a b → a.round ≤ b.round
upto_round a b h = grind arith

-- a number that an attempt's round is not below is no greater than the greatest attempt's
pub raised : (m : Option Ballot) (b : Ballot) (low : ℕ) → UpTo m b → low ≤ b.round → (u : Ballot) × (m ≡ Some u) × (low ≤ u.round)
raised m b low h le = grind arith

module _ (g : Setting) (dead : ℕ → Bool) (old : World) (at : Place) (site low : ℕ) where
  -- The server has a Tick or isn't held, with no attempt, and will draw no round below `low`; or an attempt has one.
  abbrev pub IsTrying : World → List Sent → List Entry → Option Ballot → Type 0
  IsTrying w air es m =
      ((l : ServerLive) × ((w.servers site).live ≡ Some l) × (next_of at.shard (l.shards at.shard) ≡ at) × (ballot_in (l.shards at.shard).proposal ≡ None) × (low ≤ suc l.round) × (Pending w air es (Server site) Tick ⊎ ((l.shards at.shard).held ≡ false)))
      ⊎ ((u : Ballot) × (m ≡ Some u) × (low ≤ u.round))

  -- what is known of the greatest attempt so far
  pub record Duel (w : World) (air : List Sent) (es : List Entry) : Type 0 where
    pub most : Option Ballot
    pub up : SitesUp w
    pub causes : OfAllShards (HasCause g) w
    pub promises : (r : ℕ) → r < g.config.replicas → dead r ≡ false → Promised most (promise_at old r at) (promise_at w r at)
    pub packets : (x : Sent) → IsNode g x.to → Pending w air es x.to (Deliver x.from x.packet) → Fine g dead old at most x.to x.packet
    pub attempts : (s : ℕ) → s < 2 → (l : ServerLive) → (w.servers s).live ≡ Some l → AttemptUpTo g dead old at most l
    pub made : (u : Ballot) → most ≡ Some u → IsMade g dead old at w u
    pub trying : IsTrying w air es most

  module _ {w : World} {air next : List Sent} {e : Entry} {es : List Entry} (step : Step g dead w air next e es) (h : Duel w air (e ∷ es)) where
    abbrev w' : World
    w' = after g w e

    abbrev row_of : ℕ → Out ServerLive
    row_of s = server_row g s (w.servers s)

    next_after : (s : ℕ) (l : ServerLive) → Same (l.shards at.shard) ((row_of s).live.shards at.shard) → next_of at.shard (l.shards at.shard) ≡ at → next_of at.shard ((row_of s).live.shards at.shard) ≡ at
    next_after s l same is = ap (λ (vs : List Batch). record { shard = at.shard; slot = length vs }) same.0 ∙ is

    -- ---- the greatest attempt stands, or a Nack ends it

    -- the Nack that a server takes to its attempt
    refused : (s : ℕ) → s < 2 → (u : Ballot) → h.most ≡ Some u → (r : ℕ) (c : Ballot) (round : ℕ) → opened_at w (Server s) ≡ Some (Deliver (Replica r) (Nack at u c)) → c.round ≤ round → IsRefusedBy g dead old at u round
    refused s lt u is r c round opened le =
        let x = h.packets (record { from = Replica r; to = Server s; packet = Nack at u c }) lt (inr opened) refl in
        (x.0, c, x.1, x.2, ⊎_elim (λ k. k) (λ k. absurd (not_above c u (subst (λ o. UpTo o c) is k) x.3)) x.4, x.3, le)

    made_after : (u : Ballot) → h.most ≡ Some u → IsMade g dead old at w' u
    made_after u is = go (h.made u is)
      where
        go : IsMade g dead old at w u → IsMade g dead old at w' u
        go (s, l, lt, up, place, left, fate) =
            lives step (Server s) (λ same. (s, l, lt, same ∙ up, place, left, fate))
            (λ end now.
            let t = calm_turn step s l up end in
            (s, (row_of s).live, lt, now, next_after s l (t.each at.shard).0 place, still_left g (l.shards at.shard) ((row_of s).live.shards at.shard) (t.each at.shard).0 left, turned t (t.each at.shard).1 fate))
          where
            turned : (t : CalmTurn g w s l) → Fate g s (w.servers s).kept l t.input (row_of s).live.round at.shard (l.shards at.shard) ((row_of s).live.shards at.shard) → (ballot_in (l.shards at.shard).proposal ≡ Some u) ⊎ IsRefusedBy g dead old at u l.round → (ballot_in ((row_of s).live.shards at.shard).proposal ≡ Some u) ⊎ IsRefusedBy g dead old at u (row_of s).live.round
            turned t f (inr (r, c, lt, live, was, below, le)) = inr (r, c, lt, live, was, below, let more = t.rounds in omega (arith, le, more))
            turned t (inl k) (inl stands) = inl (k.0 ∙ stands)
            turned t (inr (inl d)) (inl stands) = none_some u (sym d.1 ∙ stands)
            turned t (inr (inr (r, b, c, input, was, gone, le))) (inl stands) =
                inr (refused s lt u is r c (row_of s).live.round (t.opened ∙ ap Some (input ∙ ap (λ q. Deliver (Replica r) (Nack q b c)) place ∙ ap (λ x. Deliver (Replica r) (Nack at x c)) (some_same b u (sym was ∙ stands)))) le)

    new : MoreOfBoth g dead old at w' h.most
    new = with_both g dead old at w' h.most (sites_up step h.up) (lasts g (HasCause g) (λ b e. none_some b e) (cause_kept g) w e h.causes) made_after

    -- ---- promises

    -- a question that a replica's open turn took
    asked : (r : ℕ) → r < g.config.replicas → (i : Input) (b : Ballot) → opened_at w (Replica r) ≡ Some i → AsksAt i at b → UpTo h.most b × (dead r ≡ false)
    asked r lt i b o (from, inl q) = h.packets (record { from = from; to = Replica r; packet = Prepare at b }) lt (inr (o ∙ ap Some q)) refl
    asked r lt i b o (from, inr (v, q)) = h.packets (record { from = from; to = Replica r; packet = Accept at b v }) lt (inr (o ∙ ap Some q)) refl

    promise_after : (r : ℕ) → r < g.config.replicas → dead r ≡ false → Promised h.most (promise_at old r at) (promise_at w' r at)
    promise_after r lt live =
        ⊎_elim by_same
        (λ (q : IsEnd e (Replica r) × ((w'.replicas r).kept ≡ land land_replica (replica_row (w.replicas r)).note (w.replicas r).kept)).
        by_row step (Replica r) q.0 (λ (o : Out (Unit {0})). (w'.replicas r).kept ≡ land land_replica o.note (w.replicas r).kept → Promised h.most (promise_at old r at) (promise_at w' r at))
        (λ _. by_same) (λ _ _ i o kept. risen i o kept (rises (w.replicas r).kept at i)) q.1)
        (kept_after step (Replica r))
      where
        now_is : (k : ReplicaKept) → (w'.replicas r).kept ≡ k → promise_at w' r at ≡ (cell_at k at).promised
        now_is k same = ap (λ (k : ReplicaKept). (cell_at k at).promised) same

        by_same : (w'.replicas r).kept ≡ (w.replicas r).kept → Promised h.most (promise_at old r at) (promise_at w' r at)
        by_same same = subst (Promised h.most (promise_at old r at)) (sym (now_is (w.replicas r).kept same)) (h.promises r lt live)

        risen : (i : Input) → (w.replicas r).opened ≡ Some i → (w'.replicas r).kept ≡ after_turn (w.replicas r).kept i → Rises (w.replicas r).kept at i (after_turn (w.replicas r).kept i) → Promised h.most (promise_at old r at) (promise_at w' r at)
        risen i o kept (inl same) = subst (Promised h.most (promise_at old r at)) (sym (now_is (after_turn (w.replicas r).kept i) kept ∙ same)) (h.promises r lt live)
        risen i o kept (inr (b, asks, is, le)) = promised_more h.most (promise_at old r at) (promise_at w r at) (promise_at w' r at) b (h.promises r lt live) (now_is (after_turn (w.replicas r).kept i) kept ∙ is) (asked r lt i b o asks).0 le

    -- ---- packets

    -- what a replica says is fine
    says_fine : (r : ℕ) → r < g.config.replicas → (i : Input) → opened_at w (Replica r) ≡ Some i → (to : Node) (p : Packet) → Says (w.replicas r).kept at i p → Fine g dead old at h.most to p
    says_fine r lt i o to (Nack p b c) s = λ q. let x = s q in let live = (asked r lt i b o x.2).1 in (r, lt, live, x.1, promised_is h.most (promise_at old r at) (promise_at w r at) c (h.promises r lt live) x.0)
    says_fine r lt i o to (Prepare p b) s = absurd s
    says_fine r lt i o to (Accept p b v) s = absurd s
    says_fine r lt i o to _ s = tt

    -- what a row says of each of its packets
    sent_fine : (x : Sent) → IsSent dead e x → Fine g dead old at new.0 x.to x.packet
    sent_fine x (Dispatcher s, o, ps, kept, q, m, live) = plain_fine g dead old at new.0 x.to x.packet (each_of_row step IsPlain (Dispatcher s) (o, ps, kept, q) (dispatcher_row_plain g s (w.dispatchers s)) x m)
    sent_fine x (Joiner j, o, ps, kept, q, m, live) = plain_fine g dead old at new.0 x.to x.packet (each_of_row step IsPlain (Joiner j) (o, ps, kept, q) (joiner_row_plain g j (w.joiners j)) x m)
    sent_fine x (Server s, o, ps, kept, q, m, live) =
        let end : IsEnd e (Server s) = (o, ps, kept, q) in
        let lt : s < 2 = (ends step (Server s) end).0 in
        let u = h.up s lt in
        asks_fine g dead old at (row_of s).live.shards new.0 x.to live (new.3 s lt (row_of s).live (ended_own g w e (Server s) end)) x.packet
        (each_of_row step (Asks (row_of s).live.shards) (Server s) end (calm_turn step s u.0 u.1 end).asks x m)
    sent_fine x (Replica r, o, ps, kept, q, m, live) =
        let end : IsEnd e (Replica r) = (o, ps, kept, q) in
        by_row step (Replica r) end (λ (out : Out (Unit {0})). out ≡ replica_row (w.replicas r) → Fine g dead old at new.0 x.to x.packet)
        (λ _ is. absurd (each_of_row step (λ p. ⊥) (Replica r) end (subst (λ (o : Out (Unit {0})). Each (λ (a : To × Packet). ⊥) o.packets) is tt) x m))
        (λ _ _ i o is. fine_grows g dead old at h.most new.0 new.1 x.to x.packet
        (says_fine r (ends step (Replica r) end).0 i o x.to x.packet
        (each_of_row step (Says (w.replicas r).kept at i) (Replica r) end (subst (λ (o : Out (Unit {0})). Each (λ (a : To × Packet). Says (w.replicas r).kept at i a.1) o.packets) is (says (w.replicas r).kept at i)) x m)))
        refl

    -- ---- the server that is to try

    trying_after : site < 2 → IsTrying w' next es new.0
    trying_after lt = go h.trying
      where
        go : IsTrying w air (e ∷ es) h.most → IsTrying w' next es new.0
        go (inr (u, is, le)) = inr (raised new.0 u low (new.1 u (subst (λ o. UpTo o u) (sym is) (inr refl))) le)
        go (inl (l, up, place, none, le, waits)) = ⊎_elim (λ t. goes step (Server site) Tick t (λ t. moved (inl t)) (λ end o. ended end (λ _. inr (subst (λ (o : Out ServerLive). (o.live.shards at.shard).held ≡ false) (sym (turned g w (Server site) l Tick up o)) refl)))) (λ free. moved (inr free)) waits
          where
            ended : IsEnd e (Server site) → (Keeps (l.shards at.shard) ((row_of site).live.shards at.shard) → Pending w' next es (Server site) Tick ⊎ (((row_of site).live.shards at.shard).held ≡ false)) → IsTrying w' next es new.0
            ended end waits = by_fate (t.each at.shard).1
              where
                t : CalmTurn g w site l
                t = calm_turn step site l up end

                now : (w'.servers site).live ≡ Some (row_of site).live
                now = ended_own g w e (Server site) end

                place_now : next_of at.shard ((row_of site).live.shards at.shard) ≡ at
                place_now = next_after site l (t.each at.shard).0 place

                by_fate : Fate g site (w.servers site).kept l t.input (row_of site).live.round at.shard (l.shards at.shard) ((row_of site).live.shards at.shard) → IsTrying w' next es new.0
                by_fate (inl k) = inl ((row_of site).live, now, place_now, k.0 ∙ none, (let more = t.rounds in omega (arith, le, more)), waits k)
                by_fate (inr (inl (b, was, left, is, round))) = inr (raised new.0 b low (new.3 site lt (row_of site).live now b (place_now, is)) (omega (arith, le, round)))
                by_fate (inr (inr (r, b, c, input, was, gone, up_to))) = none_some b (sym none ∙ was)

            moved : Pending w' next es (Server site) Tick ⊎ ((l.shards at.shard).held ≡ false) → IsTrying w' next es new.0
            moved waits = lives step (Server site) (λ same. inl (l, same ∙ up, place, none, le, waits)) (λ end _. ended end (λ k. ⊎_elim (λ t. inl t) (λ free. inr (k.1 free)) waits))

    pub duel_goes_on : site < 2 → Duel w' next es
    duel_goes_on lt =
        record {
          most = new.0;
          up = sites_up step h.up;
          causes = lasts g (HasCause g) (λ b e. none_some b e) (cause_kept g) w e h.causes;
          promises = λ r lt live. promised_grows (promise_at old r at) (promise_at w' r at) (promise_after r lt live);
          packets = λ x is u. ⊎_elim (λ k. fine_grows g dead old at h.most new.0 new.1 x.to x.packet (h.packets x is k)) (sent_fine x) (was_pending step x u);
          attempts = new.3;
          made = new.2;
          trying = trying_after lt;
        }
      where
        promised_grows : (was now : Option Ballot) → Promised h.most was now → Promised new.0 was now
        promised_grows was now h = grind arith
