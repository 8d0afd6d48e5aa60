-- Each event of replicas and servers keeps what holds, and so does each run.
use Rattle.std.proofs.Common.{◌≡◌, ◌⊎◌, ℕ, suc, max, ◌<◌, ◌≤◌, List, [], ◌∷◌, ◌++◌, length, Bool, true, ◌&&◌, Option, Some, None, inl, inr, refl, sym, ap, ◌∙◌, subst, arith, slice_get, ◌==◌, ◌≢◌}
use Rattle.paxos_world.proofs.Words.{cond_both, eqb-true, and_parts, Mem, set_at, at_set, at_set_if, Ballot, is_same, same_true, Place, Note, acceptance, IsChosen, JournalsAgree, Phase, on_promise, on_accepted, IsGrant, IsAnswered, IsUnheard, at_push, unheard_written, chosen_written, unheard_sent, asks, offers, Packet, Prepare, Promise, Nack, Accept, Accepted, Chosen, Proposal, Shard, Live, Server, next_place, with_server, begins, learns, packet_returns, if_up, starts, EpochsKept, learned_of, Stops, Starts}
use Rattle.paxos_world.specs.ServersWorld.{World, Event, opened, goes_on, promise_counted, acceptance_counted, counts, returns, happens, run}
use Rattle.paxos_world.specs.ServersWorld.Event.{Proposes, Comes, Returns, ReplicaRestarts}
use Rattle.paxos_world.proofs.Replicas.{Offered, Stands, Holds, IsQuiet, Lasts, stands_written, accept_came, stands_sent, Asked, promise_counts, Learned, acceptance_counts, holds_restored, was_sent, holds_with, holds_offered, holds_sent, arrives_holds, restarts_holds}

-- a ballot of server s that it hasn't drawn yet, by its kept epoch and its round
abbrev pub IsUndrawn : {V : Type 0} → ℕ → ℕ → Option (Live V) → Ballot → Type 0
IsUndrawn s e None b = (b.site ≡ s) × (e < b.epoch)
IsUndrawn s e (Some l) b = (b.site ≡ s) × ((e < b.epoch) ⊎ ((e ≡ b.epoch) × (l.round < b.round)))

-- a ballot that server s has drawn in the epoch, of no higher round
abbrev pub IsDrawn : ℕ → ℕ → ℕ → Ballot → Type 0
IsDrawn s e greatest b = (b.site ≡ s) × (b.epoch ≡ e) × (b.round ≤ greatest)

abbrev pub ProposalStands : {V : Type 0} → List (List (Note V)) → List (Packet V) → ℕ → ℕ → ℕ → Place → Option (Proposal V) → Type 0
ProposalStands js ps s e round p None = Unit {0}
ProposalStands js ps s e round p (Some a) = IsDrawn s e round a.ballot × Stands js ps p a.ballot a.phase

-- each value is chosen in its slot
abbrev pub AreChosen : {V : Type 0} → List (List (Note V)) → ℕ → List V → Type 0
AreChosen {V} js shard learned = (slot : ℕ) (v : V) → slice_get learned slot ≡ Some v → IsChosen js (record { shard = shard; slot = slot }) v

pub record ShardStands {V : Type 0} (js : List (List (Note V))) (ps : List (Packet V)) (s e round shard : ℕ) (st : Shard V) : Type 0 where
  pub learned : AreChosen js shard st.learned
  pub proposal : ProposalStands js ps s e round (record { shard = shard; slot = length st.learned }) st.proposal

abbrev pub LiveStands : {V : Type 0} → List (List (Note V)) → List (Packet V) → ℕ → ℕ → Option (Live V) → Type 0
LiveStands js ps s e None = Unit {0}
LiveStands js ps s e (Some l) = (shard : ℕ) → ShardStands js ps s e l.round shard (l.shards shard)

pub record ServerStands {V : Type 0} (js : List (List (Note V))) (ps : List (Packet V)) (s : ℕ) (server : Server V) : Type 0 where
  -- a ballot that wasn't drawn was never heard of
  pub undrawn : (b : Ballot) → IsUndrawn s server.epoch server.live b → (p : Place) → IsUnheard js (Offered ps) p b
  pub live : LiveStands js ps s server.epoch server.live

abbrev pub ServersStand : {V : Type 0} → (ℕ → Server V) → List (List (Note V)) → List (Packet V) → Type 0
ServersStand servers js ps = (s : ℕ) → ServerStands js ps s (servers s)

abbrev pub WorldHolds : {V : Type 0} → List (List (Note V)) → World V → Type 0
WorldHolds first w = Holds first (ServersStand w.servers) w.replicas

-- ---- votes are written, packets are sent

proposal_lasts : {V : Type 0} (js js' : List (List (Note V))) (ps ps' : List (Packet V)) (s e round : ℕ) (p : Place) (o : Option (Proposal V)) → ((a : Proposal V) → a.ballot.site ≡ s → Stands js ps p a.ballot a.phase → Stands js' ps' p a.ballot a.phase) → ProposalStands js ps s e round p o → ProposalStands js' ps' s e round p o
proposal_lasts js js' ps ps' s e round p None stands h = tt
proposal_lasts js js' ps ps' s e round p (Some a) stands h = (h.0, stands a h.0.0 h.1)

module _ {V : Type 0} (js js' : List (List (Note V))) (ps ps' : List (Packet V)) (s : ℕ) (unheard : (b : Ballot) → b.site ≡ s → (p : Place) → IsUnheard js (Offered ps) p b → IsUnheard js' (Offered ps') p b) (chosen : (p : Place) (v : V) → IsChosen js p v → IsChosen js' p v) where
  -- a server stands on, where its proposals do
  server_lasts : (server : Server V) → ((l : Live V) (shard : ℕ) (a : Proposal V) → a.ballot.site ≡ s → Stands js ps (next_place l shard) a.ballot a.phase → Stands js' ps' (next_place l shard) a.ballot a.phase) → ServerStands js ps s server → ServerStands js' ps' s server
  server_lasts server stands h = record { undrawn = λ b u p. unheard b (grind arith) p (h.undrawn b u p); live = live server.live h.live }
    where
      live : (o : Option (Live V)) → LiveStands js ps s server.epoch o → LiveStands js' ps' s server.epoch o
      live None h = tt
      live (Some l) h = λ shard. record { learned = λ slot v k. chosen _ v ((h shard).learned slot v k); proposal = proposal_lasts js js' ps ps' s server.epoch l.round (next_place l shard) (l.shards shard).proposal (stands l shard) (h shard).proposal }

lasts : {V : Type 0} (servers : ℕ → Server V) → Lasts (ServersStand servers)
lasts servers =
    record {
      written = λ js js' ps writes h s. server_lasts js js' ps ps s (λ b _ p. unheard_written (writes p) b) (λ p v. chosen_written (writes p) v) (servers s) (λ l shard a _. stands_written ps writes (next_place l shard) a.ballot a.phase) (h s);
      sent = λ js ps x quiet h s. server_lasts js js ps (x ∷ ps) s (λ b _ p. unheard_sent js p b (accept_came js ps x p b (quiet p b))) (λ p v c. c) (servers s)
          (λ l shard a _. stands_sent js ps x (next_place l shard) a.ballot a.phase (quiet (next_place l shard) a.ballot)) (h s);
    }

-- ---- a server goes on

weaker : (e : ℕ) (b : Ballot) (round next : ℕ) → round ≤ next → (e < b.epoch) ⊎ ((e ≡ b.epoch) × (next < b.round)) → (e < b.epoch) ⊎ ((e ≡ b.epoch) × (round < b.round))
weaker e b round next le h = grind arith

learns_more : {V : Type 0} (js : List (List (Note V))) (shard : ℕ) (learned : List V) (v : V) → AreChosen js shard learned → IsChosen js (record { shard = shard; slot = length learned }) v → AreChosen js shard (learned ++ v ∷ [])
learns_more {V} js shard learned v h chosen slot w e = grind (arith, at_push)

place_is : {V : Type 0} (p : Place) (l : Live V) → (p.slot == length (l.shards p.shard).learned) ≡ true → p ≡ next_place l p.shard
place_is p l e = λ i. record { shard = p.shard; slot = eqb-true p.slot (length (l.shards p.shard).learned) e i }

holds_with_server : {V : Type 0} {first : List (List (Note V))} (w : World V) (s : ℕ) (server : Server V) → WorldHolds first w → ServerStands w.replicas.journals w.replicas.packets s server → WorldHolds first (with_server w s server)
holds_with_server w s server h stands = holds_with w.replicas h (at_set (ServerStands w.replicas.journals w.replicas.packets) w.servers s server stands h.rest)

module _ {V : Type 0} {first : List (List (Note V))} (w : World V) (s : ℕ) (l : Live V) (h : WorldHolds first w) (is : (w.servers s).live ≡ Some l) where
  abbrev js : List (List (Note V))
  js = w.replicas.journals

  abbrev ps : List (Packet V)
  ps = w.replicas.packets

  abbrev e : ℕ
  e = (w.servers s).epoch

  -- what is known of the server
  lived : (shard : ℕ) → ShardStands js ps s e l.round shard (l.shards shard)
  lived = subst (LiveStands js ps s e) is (h.rest s).live

  unheard_yet : (b : Ballot) → b.site ≡ s → (e < b.epoch) ⊎ ((e ≡ b.epoch) × (l.round < b.round)) → (p : Place) → IsUnheard js (Offered ps) p b
  unheard_yet b site u = (h.rest s).undrawn b (subst (λ o. IsUndrawn s e o b) (sym is) (site, u))

  holds_goes_on : (round shard : ℕ) (st : Shard V) → l.round ≤ round → ShardStands js ps s e round shard st → WorldHolds first (goes_on w s l round shard st)
  holds_goes_on round shard st le stands =
      holds_with_server w s _ h
      (record {
        undrawn = λ b u p. unheard_yet b u.0 (weaker e b l.round round le u.1) p;
        live = at_set (ShardStands js ps s e round) l.shards shard st stands (λ k. let old = lived k in record { learned = old.learned; proposal = grind arith });
      })

  module _ (shard : ℕ) where
    abbrev p : Place
    p = next_place l shard

    -- a value is learned
    learns_holds : (v : V) → IsChosen js p v → WorldHolds first (learns w s l shard v)
    learns_holds v chosen = holds_goes_on l.round shard _ (omega arith) (record { learned = learns_more js shard (l.shards shard).learned v (lived shard).learned chosen; proposal = tt })

    promise_holds : (a : Proposal V) (t : Phase V × Option V) → IsDrawn s e l.round a.ballot → Asked js ps p a.ballot t → WorldHolds first (promise_counted w s l shard a t)
    promise_holds a (phase, None) holds stands = grind (arith, holds_goes_on, lived)
    promise_holds a (phase, Some v) holds (is_phase, unheard, safe) =
        holds_offered w.replicas p a.ballot v h unheard safe (λ k. at_set_if (λ k. Unit {0}) (ServerStands js (x ∷ ps)) w.servers s next mine (λ k _ apart. others k apart) k tt)
      where
        x : Packet V
        x = Accept p a.ballot v

        st : Shard V
        st = record (l.shards shard) { proposal = Some (record a { phase = phase }) }

        next : Server V
        next = record { epoch = e; live = Some (record { round = l.round; shards = set_at l.shards shard st }) }

        its_ballot : (q : Place) (c : Ballot) (u : V) → Accept p a.ballot v ≡ Accept q c u → a.ballot ≡ c
        its_ballot q c u k = cc

        mine : ServerStands js (x ∷ ps) s next
        mine =
            record {
              undrawn = λ b u q. unheard_sent js q b (accept_came js ps x q b (λ c k. grind arith)) (unheard_yet b u.0 u.1 q);
              live = λ k. at_set_if (λ k. Unit {0}) (ShardStands js (x ∷ ps) s e l.round) l.shards shard st
                  (record { learned = (lived shard).learned; proposal = (holds, subst (Stands js (x ∷ ps) p a.ballot) (sym is_phase) (offers v (inl refl))) })
                  (λ k _ apart. grind (arith, stands_sent)) k tt;
            }

        others : (k : ℕ) → k ≢ s → ServerStands js (x ∷ ps) k (w.servers k)
        others k apart =
            server_lasts js js ps (x ∷ ps) k (λ b at q. unheard_sent js q b (accept_came js ps x q b (quiet q b at))) (λ q v c. c) (w.servers k)
            (λ l' k' a' at. stands_sent js ps x (next_place l' k') a'.ballot a'.phase (quiet (next_place l' k') a'.ballot at)) (h.rest k)
          where
            quiet : (q : Place) (b : Ballot) → b.site ≡ k → IsQuiet x q b
            quiet q b at u i = apart (sym at ∙ sym (ap (λ (z : Ballot). z.site) (its_ballot q b u i)) ∙ holds.0)

    acceptance_holds : (a : Proposal V) (t : Phase V × Option V) → IsDrawn s e l.round a.ballot → Learned js ps p a.ballot t → WorldHolds first (acceptance_counted w s l shard a t)
    acceptance_holds a (phase, None) holds stands = grind (arith, holds_goes_on, lived)
    acceptance_holds a (phase, Some v) holds (stands, chosen) = holds_sent (lasts _) w.replicas (Chosen p v) (learns_holds v chosen) (λ q c u e. cc) chosen

  counts_holds : (p : Place) (b : Ballot) (f : Proposal V → World V) → ((a : Proposal V) → IsDrawn s e l.round a.ballot → Stands js ps (next_place l p.shard) a.ballot a.phase → p ≡ next_place l p.shard → b ≡ a.ballot → WorldHolds first (f a)) → WorldHolds first (counts w l p b f (l.shards p.shard).proposal)
  counts_holds p b f holds = go (l.shards p.shard).proposal (lived p.shard).proposal
    where
      go : (o : Option (Proposal V)) → ProposalStands js ps s e l.round (next_place l p.shard) o → WorldHolds first (counts w l p b f o)
      go None stands = h
      go (Some a) stands =
          cond_both ((p.slot == length (l.shards p.shard).learned) && is_same b a.ballot) (f a) w (WorldHolds first)
          (λ t. let both = and_parts (p.slot == length (l.shards p.shard).learned) (is_same b a.ballot) t in holds a stands.0 stands.1 (place_is p l both.0) (same_true b a.ballot both.1))
          (λ _. h)

  packet_returns_holds : (x : Packet V) → Mem x ps → WorldHolds first (packet_returns w s l x)
  packet_returns_holds (Promise r p b prior) k =
      counts_holds p b _ (λ a holds stands place ballot. promise_holds p.shard a (on_promise a.own a.phase r prior) holds
      (promise_counts w.replicas h (next_place l p.shard) a.ballot a.own a.phase r prior stands (subst (λ (z : Place × Ballot). IsGrant js r z.0 z.1 prior) (λ i. (place i, ballot i)) (h.facts (Promise r p b prior) k))))
  packet_returns_holds (Accepted r p b) k =
      counts_holds p b _ (λ a holds stands place ballot. acceptance_holds p.shard a (on_accepted a.phase r) holds
      (acceptance_counts w.replicas h (next_place l p.shard) a.ballot a.phase r stands (subst (λ (z : Place × Ballot). IsAnswered js (Offered ps) r z.0 z.1) (λ i. (place i, ballot i)) (h.facts (Accepted r p b) k))))
  packet_returns_holds (Nack r p b promised) k =
      counts_holds p b _ (λ a holds stands place ballot. holds_goes_on (max l.round promised.round) p.shard _ (omega arith) (record { learned = (lived p.shard).learned; proposal = tt }))
  packet_returns_holds (Chosen p v) k =
      cond_both (p.slot == length (l.shards p.shard).learned) (learns w s l p.shard v) w (WorldHolds first) (λ t. learns_holds p.shard v (subst (λ q. IsChosen js q v) (place_is p l t) (h.facts (Chosen p v) k))) (λ _. h)
  packet_returns_holds _ k = h

  returns_holds : (o : Option (Packet V)) → ((x : Packet V) → o ≡ Some x → Mem x ps) → WorldHolds first (returns w s l o)
  returns_holds None k = h
  returns_holds (Some x) k = packet_returns_holds x (k x refl)

  -- a proposal at the next round
  begins_holds : (shard : ℕ) (own : V) (o : Option (Proposal V)) → WorldHolds first (begins w s shard own l o)
  begins_holds shard own (Some a) = h
  begins_holds shard own None =
      let b : Ballot = record { round = suc l.round; epoch = e; site = s } in
      holds_sent (lasts _) w.replicas (Prepare (next_place l shard) b)
      (holds_goes_on (suc l.round) shard _ (omega arith)
      (record { learned = (lived shard).learned; proposal = ((refl, refl, omega arith), asks (unheard_yet b refl (inr (refl, omega arith)) (next_place l shard))) }))
      (λ q c v e. cc) tt

-- ---- the events

module _ {V : Type 0} {first : List (List (Note V))} (w : World V) (s : ℕ) (h : WorldHolds first w) where
  starts_holds : (live : Option (Live V)) → WorldHolds first (starts w s live)
  starts_holds (Some l) = h
  starts_holds None = grind arith

  if_up_holds : (f : Live V → World V) → ((l : Live V) → (w.servers s).live ≡ Some l → WorldHolds first (f l)) → WorldHolds first (if_up w f (w.servers s).live)
  if_up_holds f holds = grind arith

happens_holds : {V : Type 0} {first : List (List (Note V))} (same : V → V → Bool) (w : World V) (e : Event V) → WorldHolds first w → WorldHolds first (happens same w e)
happens_holds same w (Proposes s shard own) h = if_up_holds w s h _ (λ l is. begins_holds w s l h is shard own (l.shards shard).proposal)
happens_holds same w (Comes r which) h = arrives_holds (lasts w.servers) same w.replicas r which h
happens_holds same w (Returns s which) h = if_up_holds w s h _ (λ l is. returns_holds w s l h is (slice_get w.replicas.packets which) (was_sent w.replicas.packets which))
happens_holds same w (ReplicaRestarts r) h = restarts_holds w.replicas r h
happens_holds same w (Stops s) h = grind (arith, holds_with_server)
happens_holds same w (Starts s) h = starts_holds w s h (w.servers s).live

run_holds : {V : Type 0} {first : List (List (Note V))} (same : V → V → Bool) (events : List (Event V)) (w : World V) → WorldHolds first w → WorldHolds first (run same events w)
run_holds same [] w h = h
run_holds same (e ∷ es) w h = run_holds same es (happens same w e) (happens_holds same w e h)

pub after_run : {V : Type 0} (same : V → V → Bool) (journals : List (List (Note V))) (epochs : ℕ → ℕ) (events : List (Event V)) → JournalsAgree journals → EpochsKept journals epochs → WorldHolds journals (run same events (opened journals epochs))
after_run {V} same journals epochs events agree kept = run_holds same events (opened journals epochs) (holds_restored journals _ agree (λ s. record { undrawn = λ b u p. record { not_offered = λ v k. k; not_accepted = λ r v h. (let at : b.epoch ≤ epochs s = subst (λ k. b.epoch ≤ epochs k) u.0 (kept p r (acceptance b v) h) in omega arith) }; live = tt }))

-- what a server has learned is chosen, slot by slot
pub learned_chosen : {V : Type 0} (js : List (List (Note V))) (ps : List (Packet V)) (s e : ℕ) (o : Option (Live V)) (shard : ℕ) → LiveStands js ps s e o → AreChosen js shard (learned_of o shard)
learned_chosen js ps s e o shard h = grind arith
