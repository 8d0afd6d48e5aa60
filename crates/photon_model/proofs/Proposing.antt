-- Each row of a server keeps the facts on ballots.
use Rattle.std.proofs.Common.{◌≡◌, ◌⊎◌, inl, inr, ⊎_elim, ℕ, suc, ◌<◌, ◌≤◌, max, Bool, true, false, cond, ◌==◌, List, [], ◌∷◌, ◌++◌, length, set, Some, None, refl, sym, ap, ◌∙◌, subst, arith, Option, slice_get}
use Rattle.photon_model.proofs.Words.{Ballot, Place, higher, value_for, Phase, is_new, is_most, nobody, on_promise, with_acceptance, on_accepted, Promising, Accepting, Ended, IsGrant, IsOffer, IsAnswered, IsUnheard, IsAsking, IsOffering, IsSafe, IsChosen, votes_in, asks, offers, asks_on, asked, offers_on, accepted_chosen, offer_sent, first_offer, learns_next, Insert, Batch, same_batch, Mem, Each, Begins, set_at, at_set, at_set_if, Setting, shard, Packet, Prepare, Promise, Accept, Accepted, Node, Server, Replica, To, Input, Deliver, Out, idle, ServerKept, ServerLive, ShardState, Proposal, to_replicas, is_current, replies, with_shard, owns, promised, accepted, server_turn, IsOwned, Offer, Votes, offer, Offered, VotesOf, VotesOfPhase, VotesOfProposal, next_place, VotesOfServer, VotesAgree, Known, ServerHolds, IsChosenNow}
use Rattle.photon_model.proofs.ServerRows.{current_at, replicas_each, reply_each, replies_each, tick_each, every_row, promise_cases, accept_cases}
use Rattle.photon_model.specs.Journals.{decided}
use Rattle.photon_model.proofs.Journals.{exact}
use Rattle.photon_model.proofs.Voting.{ServerVotes, offering, proposal_sent}

-- a list that begins another with one value more
next_of : (xs ys : List Batch) (v : Batch) → Begins (xs ++ v ∷ []) ys → slice_get ys (length xs) ≡ Some v
next_of xs ys v b = subst (λ (zs : List Batch). slice_get zs (length xs) ≡ Some v) (sym b.1) (go xs)
  where
    go : (xs : List Batch) → slice_get ((xs ++ v ∷ []) ++ b.0) (length xs) ≡ Some v
    go [] = refl
    go (x ∷ xs) = go xs

module _ (n : Votes) (agree : VotesAgree n) where
  -- a safe value at a ballot that nothing was heard of is offered
  offers_new : (at : Place) (b : Ballot) (v : Batch) → IsUnheard n.journals (Offered n) at b → IsSafe (length n.journals) (votes_in n.journals at) b v → IsOwned n.epochs b → VotesAgree (offering n (offer at b v ∷ []))
  offers_new at b v unheard safe own =
      record {
        agree = agree.agree;
        offers = λ x m. ⊎_elim
            (λ e. subst (λ (z : Offer). IsOffer n.journals (Offered now) z.place z.ballot z.value) e (first_offer n.journals at b v back unheard safe))
            (λ k. offer_sent n.journals x.place x.ballot x.value (λ w q. ⊎_elim (λ e. absurd (unheard.not_offered x.value (subst (λ (z : Offer). Offered n z.place z.ballot x.value) (sym e) k))) (λ q. inl q) q) (agree.offers x k))
            m;
        took = λ p r c w h. inr (agree.took p r c w h);
        owned_offers = λ x m. ⊎_elim (λ e. subst (λ (z : Offer). IsOwned n.epochs z.ballot) e own) (λ k. agree.owned_offers x k) m;
        owned_notes = agree.owned_notes;
      }
    where
      now : Votes
      now = offering n (offer at b v ∷ [])

      back : (w : Batch) → Offered now at b w → Offered n at b w ⊎ (w ≡ v)
      back w h = grind arith

  module _ (g : Setting) (members : length n.journals ≡ g.config.replicas) (site : ℕ) (site_ok : site < 2) (k : ServerKept) (same : n.epochs site ≡ k.epoch) (l : ServerLive) (holds : VotesOfServer n site k.epoch l) where
    abbrev AllVotes : List (To × Packet) → Type 0
    AllVotes ps = Each (λ (a : To × Packet). VotesOf n (Server site) a.1) ps

    abbrev pub Keeps : Out ServerLive → Type 0
    Keeps o = (o.note ≡ None) × ServerVotes n site k.epoch o

    quiet : (o : Out ServerLive) → o.note ≡ None → VotesOfServer n site k.epoch o.live → AllVotes o.packets → Keeps o
    quiet o e h p = (e, record { new = []; values = λ x m. absurd m; unheard = λ x m. absurd m; sites = tt; agree = agree; server = h; packets = p })

    replies_votes : (vs : List Batch) (xs : List Insert) → AllVotes (replies g site vs xs)
    replies_votes vs xs = replies_each g site (λ (a : To × Packet). VotesOf n (Server site) a.1) vs xs (λ x a m e t. tt)

    sets : (s : ℕ) (st : ShardState) → VotesOfProposal n site k.epoch l.round (next_place n s st) st.proposal → VotesOfServer n site k.epoch (with_shard g site k l s st)
    sets s st h = record { rounds = holds.rounds; shards = at_set (λ t (u : ShardState). VotesOfProposal n site k.epoch l.round (next_place n t u) u.proposal) l.shards s st h holds.shards }

    -- the same with a higher round
    raises : (round s : ℕ) (st : ShardState) → l.round ≤ round → VotesOfProposal n site k.epoch round (next_place n s st) st.proposal → VotesOfServer n site k.epoch (record { round = round; shards = set_at l.shards s st })
    raises round s st le h =
        record {
          rounds = λ x m a b. let q = holds.rounds x m a b in omega arith;
          shards = at_set (λ t (u : ShardState). VotesOfProposal n site k.epoch round (next_place n t u) u.proposal) l.shards s st h (λ t. risen t (l.shards t).proposal (holds.shards t));
        }
      where
        risen : (t : ℕ) (o : Option Proposal) → VotesOfProposal n site k.epoch l.round (next_place n t (l.shards t)) o → VotesOfProposal n site k.epoch round (next_place n t (l.shards t)) o
        risen t o h = grind arith

    owned_ballot : (b : Ballot) → b.site ≡ site → b.epoch ≡ k.epoch → IsOwned n.epochs b
    owned_ballot b e f = (subst (λ t. t < 2) (sym e) site_ok, let q : n.epochs b.site ≡ k.epoch = ap n.epochs e ∙ same in omega arith)

    draw_votes : (s : ℕ) → Keeps (owns g site k l (Some s))
    draw_votes s =
        quiet _ refl
        (raises (suc l.round) s _ (omega arith)
        (record { site_is = refl; epoch_is = refl; round_is = omega arith; phase = subst (λ m. IsAsking n.journals (Offered n) (next_place n s (l.shards s)) ballot (nobody m) None) members (asks (unheard (next_place n s (l.shards s)))) }))
        (replicas_each g site (λ (a : To × Packet). VotesOf n (Server site) a.1) (Prepare (next_place n s (l.shards s)) ballot) (λ i lt. owned_ballot ballot refl refl))
      where
        ballot : Ballot
        ballot = record { round = suc l.round; epoch = k.epoch; site = site }

        fresh : (x : Offer) → Mem x n.offered → x.ballot ≡ ballot → ⊥
        fresh x m e = let q = holds.rounds x m (ap (λ (b : Ballot). b.site) e) (ap (λ (b : Ballot). b.epoch) e) in let r : x.ballot.round ≡ suc l.round = ap (λ (b : Ballot). b.round) e in omega arith

        unheard : (at : Place) → IsUnheard n.journals (Offered n) at ballot
        unheard at = record { not_offered = λ v m. fresh (offer at ballot v) m refl; not_accepted = λ r v h. fresh (offer at ballot v) (agree.took at r ballot v h) refl }

    -- a packet's place and ballot are those of the proposal
    moved : (P : Place → Ballot → Type 0) (at : Place) (b : Ballot) (p : Proposal) → (at ≡ next_place n at.shard (l.shards at.shard)) × (b ≡ p.ballot) → P at b → P (next_place n at.shard (l.shards at.shard)) p.ballot
    moved P at b p c h = subst (λ (x : Place × Ballot). P x.0 x.1) (λ i. (c.0 i, c.1 i)) h

    module _ (s : ℕ) where
      abbrev here : Place
      here = next_place n s (l.shards s)

      -- a proposal goes on
      goes : (p : Proposal) (phase : Phase Batch) → p.ballot.site ≡ site → p.ballot.epoch ≡ k.epoch → p.ballot.round ≤ l.round → VotesOfPhase n here p.ballot phase → VotesOfServer n site k.epoch (with_shard g site k l s (record (l.shards s) { proposal = Some (record { ballot = p.ballot; own = p.own; phase = phase }) }))
      goes p phase a b c h = sets s _ (record { site_is = a; epoch_is = b; round_is = c; phase = h })

      -- its value is sent
      sends_value : (at : Place) (p : Proposal) (v : Batch) (marks : ℕ) → at.shard ≡ s → at ≡ here → marks ≡ length n.journals → p.ballot.site ≡ site → p.ballot.epoch ≡ k.epoch → p.ballot.round ≤ l.round → IsUnheard n.journals (Offered n) here p.ballot → IsSafe (length n.journals) (votes_in n.journals here) p.ballot v →
          ServerVotes n site k.epoch (record { note = None; packets = to_replicas g.config.replicas (Accept at p.ballot v); live = with_shard g site k l s (record (l.shards s) { proposal = Some (record { ballot = p.ballot; own = p.own; phase = Accepting v (nobody marks) }) }) })
      sends_value at p v marks e at_here same_marks a b c unheard safe =
          record {
            new = offer here p.ballot v ∷ [];
            values = λ x m. ⊎_elim (λ q. (s, _, nobody marks, set_now, ap (λ (z : Offer). Accepting z.value (nobody marks)) q)) (λ q. absurd q) m;
            unheard = λ x m. ⊎_elim (λ q. subst (λ (z : Offer). IsUnheard n.journals (Offered n) z.place z.ballot) q unheard) (λ q. absurd q) m;
            sites = (a, tt);
            agree = offers_new here p.ballot v unheard safe (owned_ballot p.ballot a b);
            server = record {
              rounds = λ x m i j. ⊎_elim (λ q. subst (λ (y : Offer). y.ballot.round ≤ l.round) q c) (λ q. holds.rounds x q i j) m;
              shards = λ t. at_set_if (λ _. Unit {0}) (λ t (z : ShardState). VotesOfProposal now site k.epoch l.round (next_place n t z) z.proposal) l.shards s _
                  (record { site_is = a; epoch_is = b; round_is = c; phase = subst (λ m. IsOffering n.journals (Offered now) here p.ballot v (nobody m)) (sym same_marks) (offers v (inl refl)) })
                  (λ t _ ne. proposal_sent n (offer here p.ballot v ∷ []) n.epochs (λ i. omega arith) site k.epoch l.round l.round (next_place n t (l.shards t)) (l.shards t).proposal (omega arith) (λ q f x m i j. ⊎_elim (λ u. ne (sym (ap (λ (y : Offer). y.place.shard) u ∙ ap (λ (y : Place). y.shard) i))) (λ u. u) m) (holds.shards t))
                  t tt;
            };
            packets = replicas_each g site (λ (x : To × Packet). VotesOf now (Server site) x.1) (Accept at p.ballot v) (λ r lt. inl (λ i. offer (sym at_here i) p.ballot v));
          }
        where
          now : Votes
          now = offering n (offer here p.ballot v ∷ [])

          set_now : (set_at l.shards s (record (l.shards s) { proposal = Some (record { ballot = p.ballot; own = p.own; phase = Accepting v (nobody marks) }) }) s).proposal ≡ Some (record { ballot = p.ballot; own = p.own; phase = Accepting v (nobody marks) })
          set_now = ap (λ (z : ShardState). z.proposal) (Rattle.std.proofs.lemmas.Bool.cond-true (s == s) _ (l.shards s) (Rattle.std.proofs.lemmas.Bool.eq-eqb s s refl))

    stood : (s : ℕ) (p : Proposal) → (l.shards s).proposal ≡ Some p → VotesOfProposal n site k.epoch l.round (here s) (Some p)
    stood s p e = subst (VotesOfProposal n site k.epoch l.round (here s)) e (holds.shards s)

    -- a current answer is one to the proposal
    module _ (at : Place) (b : Ballot) (p : Proposal) (e : (l.shards at.shard).proposal ≡ Some p) (is : is_current g at b (l.shards at.shard) p ≡ true) where
      quietly : (phase : Phase Batch) → VotesOfPhase n (here at.shard) p.ballot phase → Keeps (promised g site k l at (l.shards at.shard) p (phase, None))
      quietly phase f = let a = stood at.shard p e in quiet _ refl (goes at.shard p phase a.site_is a.epoch_is a.round_is f) tt

      promise_votes : (r : ℕ) (o : Option (Ballot × Batch)) → IsGrant n.journals r at b o → Keeps (promised g site k l at (l.shards at.shard) p (on_promise p.own p.phase r o))
      promise_votes r o h =
          let a = stood at.shard p e in
          let grant = moved (λ x y. IsGrant n.journals r x y o) at b p (current_at g at b (l.shards at.shard) p is) h in
          promise_cases p.own r o (λ y t. VotesOfPhase n (here at.shard) p.ballot y → Keeps (promised g site k l at (l.shards at.shard) p t)) quietly
          (λ marks best most f. let next = asks_on r o f grant in
          (refl, sends_value at.shard at p (value_for p.own (higher best o)) (length (set marks r true)) refl (current_at g at b (l.shards at.shard) p is).0 next.members a.site_is a.epoch_is a.round_is next.unheard (asked p.own (agree.agree (here at.shard)) next most)))
          (λ marks best few f. quietly (Promising (set marks r true) (higher best o)) (asks_on r o f grant)) p.phase a.phase

      accepted_votes : (r : ℕ) → IsAnswered n.journals (Offered n) r at b → Keeps (accepted g site k l at (l.shards at.shard) p (on_accepted p.phase r).0 (on_accepted p.phase r).1)
      accepted_votes r h =
          accept_cases r (λ y t. VotesOfPhase n (here at.shard) p.ballot y → Keeps (accepted g site k l at (l.shards at.shard) p t.0 t.1)) quietly
          (λ v marks most f. quiet _ refl (sets at.shard _ tt) (tt, replies_votes ((l.shards at.shard).learned ++ v ∷ []) (l.shards at.shard).queue))
          (λ v marks few f. quietly (Accepting v (set marks r true)) (offers_on r v (agree.offers (offer (here at.shard) p.ballot v) f.offered) f (moved (λ x y. IsAnswered n.journals (Offered n) r x y) at b p (current_at g at b (l.shards at.shard) p is) h))) p.phase (stood at.shard p e).phase

    -- where an Accepted makes a majority, the value is decided
    pub chosen_now : (m : Known) → ((s : ℕ) → m.values s ≡ decided n.journals s) → ServerHolds g m l → (i : Input) → ((r : ℕ) (p : Packet) → i ≡ Deliver (Replica r) p → VotesOf n (Replica r) p) → IsChosenNow g m l i
    chosen_now m values known i votes at b r p v e at_p cur is =
        let c = current_at g at b (l.shards at.shard) p cur in
        let a = stood at.shard p at_p in
        let chosen = now_chosen p.phase a.phase (moved (λ x y. IsAnswered n.journals (Offered n) r x y) at b p c (votes r (Accepted at b) e)) is in
        subst (λ (xs : List Batch). slice_get xs (length (l.shards at.shard).learned) ≡ Some v) (sym (values at.shard))
        (next_of (l.shards at.shard).learned (decided n.journals at.shard) v (learns_next same_batch exact n.journals at.shard (l.shards at.shard).learned v agree.agree (subst (Begins (l.shards at.shard).learned) (values at.shard) (known at.shard).learned) chosen))
      where
        now_chosen : (phase : Phase Batch) → VotesOfPhase n (here at.shard) p.ballot phase → IsAnswered n.journals (Offered n) r (here at.shard) p.ballot → (on_accepted phase r).1 ≡ Some v → IsChosen n.journals (here at.shard) v
        now_chosen (Accepting w marks) f answer is = new (is_new marks r) refl is
          where
            more : IsOffering n.journals (Offered n) (here at.shard) p.ballot w (set marks r true)
            more = offers_on r w (agree.offers (offer (here at.shard) p.ballot w) f.offered) f answer

            most : (t : Bool) → is_most (set marks r true) ≡ t → (cond {A = Phase Batch × Option Batch} t (Ended, Some w) (Accepting w (set marks r true), None)).1 ≡ Some v → IsChosen n.journals (here at.shard) v
            most true e is = let same : w ≡ v = cc in subst (IsChosen n.journals (here at.shard)) same (accepted_chosen w more e)
            most false e is = absurd (cc)

            new : (t : Bool) → is_new marks r ≡ t → (cond {A = Phase Batch × Option Batch} t (with_acceptance w (set marks r true)) (Accepting w marks, None)).1 ≡ Some v → IsChosen n.journals (here at.shard) v
            new true e is = most (is_most (set marks r true)) refl is
            new false e is = absurd (cc)
        now_chosen _ f answer is = absurd (cc)

    pub turn_votes : (i : Input) → ((from : Node) (p : Packet) → i ≡ Deliver from p → VotesOf n from p) → Keeps (server_turn g site k l i)
    turn_votes =
        every_row g site k l (λ i o. ((from : Node) (p : Packet) → i ≡ Deliver from p → VotesOf n from p) → Keeps o)
        (record {
          idles = λ i v. quiet (idle l) refl holds tt;
          ticks = λ v. quiet _ refl (record { rounds = holds.rounds; shards = holds.shards }) (tick_each g site (λ (a : To × Packet). VotesOf n (Server site) a.1) k l
              (λ s p marks best e f i lt. let a = stood s p e in owned_ballot p.ballot a.site_is a.epoch_is)
              (λ s p u marks e f i lt. (subst (VotesOfPhase n (here s) p.ballot) f (stood s p e).phase).offered));
          draws = λ s may v. draw_votes s;
          answers = λ from x a e v. quiet _ refl holds (reply_each g site (λ (b : To × Packet). VotesOf n (Server site) b.1) x a (λ t. tt));
          queues = λ from x v. quiet _ refl (sets (shard g x.id) _ (holds.shards (shard g x.id))) tt;
          learns_of = λ from at u e v. quiet _ refl (sets at.shard _ tt) (replies_votes ((l.shards at.shard).learned ++ u ∷ []) (l.shards at.shard).queue);
          promises = λ r at b o p e t v. promise_votes at b p e t r o (v (Replica r) (Promise at b o) refl);
          accepts = λ r at b p e t v. accepted_votes at b p e t r (v (Replica r) (Accepted at b) refl);
          refuses = λ r at b above p e t v. quiet _ refl (raises (max l.round above.round) at.shard _ (omega arith) tt) tt;
        })
