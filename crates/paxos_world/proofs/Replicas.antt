-- What holds of replicas and packets in both worlds, and how each of their turns keeps it.
use Rattle.std.proofs.Common.{◌≡◌, ℕ, zero, suc, ◌<◌, List, [], ◌∷◌, length, set, Bool, true, false, cond, ◌&&◌, ◌==◌, Option, Some, None, inl, inr, ⊎_elim, refl, sym, ap, ◌∙◌, subst, arith, slice_get, nat_lt}
use Rattle.paxos_world.proofs.Words.{agreed_one, decided, decided_begin, decided_is, Begins, IsExact, nat_tests, cond_both, ltb-true, Mem, none_some, some_same, Ballot, Place, is_place, Note, note_of, Vote, acceptance, votes, cell_after, cell_of, IsChosen, IsOnly, IsSafe, JournalsAgree, Rises, Taken, on_prepare, on_accept, Phase, is_new, is_most, nobody, on_promise, on_accepted, Promising, Accepting, Ended, IsGrant, IsRefusal, IsOffer, IsAnswered, IsUnheard, IsAsking, IsOffering, Writes, Knows, cell_knows, cell_push, noted, note_casts, note_elsewhere, after, IsPromiseVote, prepare_holds, IsAcceptanceVote, TakenHolds, accept_holds, grant_written, refusal_written, offer_written, answer_written, asking_written, offering_written, chosen_written, first_offer, vote_suits, note_writes, note_agrees, asks_on, asked, offers_on, accepted, Packet, Replicas, restored, sent, casts, taken, comes, arrives, restarts, Prepare, Promise, Nack, Accept, Accepted, Chosen}

abbrev pub Offered : {V : Type 0} → List (Packet V) → Place → Ballot → V → Type 0
Offered ps p b v = Mem (Accept p b v) ps

-- the lasting fact behind a packet
abbrev pub Fact : {V : Type 0} → List (List (Note V)) → List (Packet V) → Packet V → Type 0
Fact js ps (Prepare p b) = Unit {0}
Fact js ps (Promise r p b prior) = IsGrant js r p b prior
Fact js ps (Nack r p b promised) = IsRefusal js r p b promised
Fact js ps (Accept p b v) = IsOffer js (Offered ps) p b v
Fact js ps (Accepted r p b) = IsAnswered js (Offered ps) r p b
Fact js ps (Chosen p v) = IsChosen js p v

abbrev pub Stands : {V : Type 0} → List (List (Note V)) → List (Packet V) → Place → Ballot → Phase V → Type 0
Stands js ps p b (Promising marks best) = IsAsking js (Offered ps) p b marks best
Stands js ps p b (Accepting v marks) = IsOffering js (Offered ps) p b v marks
Stands js ps p b Ended = Unit {0}

-- What holds of replicas that were restored from the first journals, and of the rest of the world.
pub record Holds {V : Type 0} (first : List (List (Note V))) (Rest : List (List (Note V)) → List (Packet V) → Type 0) (a : Replicas V) : Type 0 where
  pub agree : JournalsAgree a.journals
  pub remembered : (r : ℕ) (p : Place) → a.cells r p ≡ cell_of (votes a.journals p r)
  pub facts : (x : Packet V) → Mem x a.packets → Fact a.journals a.packets x
  -- what was chosen stays so
  pub kept : (p : Place) (v : V) → IsChosen first p v → IsChosen a.journals p v
  pub rest : Rest a.journals a.packets

-- the packet isn't an Accept at this ballot of this place
abbrev pub IsQuiet : {V : Type 0} → Packet V → Place → Ballot → Type 0
IsQuiet {V} x p b = (v : V) → x ≡ Accept p b v → ⊥

-- the rest lasts while votes are written, and while packets are sent that offer nothing
pub record Lasts {V : Type 0} (Rest : List (List (Note V)) → List (Packet V) → Type 0) : Type 0 where
  pub written : (js js' : List (List (Note V))) (ps : List (Packet V)) → ((q : Place) → Writes (Offered ps) js js' q) → Rest js ps → Rest js' ps
  pub sent : (js : List (List (Note V))) (ps : List (Packet V)) (x : Packet V) → ((p : Place) (b : Ballot) → IsQuiet x p b) → Rest js ps → Rest js (x ∷ ps)

module _ {V : Type 0} (ps : List (Packet V)) {js js' : List (List (Note V))} (writes : (q : Place) → Writes (Offered ps) js js' q) where
  fact_written : (x : Packet V) → Fact js ps x → Fact js' ps x
  fact_written (Prepare p b) h = tt
  fact_written (Promise r p b prior) h = grant_written (writes p) r b prior h
  fact_written (Nack r p b promised) h = refusal_written (writes p) r b promised h
  fact_written (Accept p b v) h = offer_written (writes p) b v h
  fact_written (Accepted r p b) h = answer_written (writes p) r b h
  fact_written (Chosen p v) h = chosen_written (writes p) v h

  pub stands_written : (p : Place) (b : Ballot) (phase : Phase V) → Stands js ps p b phase → Stands js' ps p b phase
  stands_written p b (Promising marks best) h = asking_written (writes p) b marks best h
  stands_written p b (Accepting v marks) h = offering_written (writes p) b v marks h
  stands_written p b Ended h = tt

module _ {V : Type 0} (js : List (List (Note V))) (ps : List (Packet V)) (x : Packet V) where
  pub accept_came : (p : Place) (b : Ballot) → IsQuiet x p b → (v : V) → Offered (x ∷ ps) p b v → Offered ps p b v
  accept_came p b quiet v h = grind arith

  pub stands_sent : (p : Place) (b : Ballot) (phase : Phase V) → IsQuiet x p b → Stands js ps p b phase → Stands js (x ∷ ps) p b phase
  stands_sent p b phase quiet h = grind arith

  -- a packet's fact is kept, where no second value is sent at its ballot
  fact_sent : (y : Packet V) → ((p : Place) (b : Ballot) (v : V) → y ≡ Accept p b v → (w : V) → x ≡ Accept p b w → w ≡ v) → Fact js ps y → Fact js (x ∷ ps) y
  fact_sent y fits h = grind arith

-- ---- what is counted

-- a counted promise leaves a phase that stands, or a safe value to send, of whose ballot nothing was heard
abbrev pub Asked : {V : Type 0} → List (List (Note V)) → List (Packet V) → Place → Ballot → Phase V × Option V → Type 0
Asked js ps p b (phase, None) = Stands js ps p b phase
Asked js ps p b (phase, Some v) = (phase ≡ Accepting v (nobody (length js))) × IsUnheard js (Offered ps) p b × IsSafe (length js) (votes js p) b v

-- a counted acceptance leaves one, or a chosen value
abbrev pub Learned : {V : Type 0} → List (List (Note V)) → List (Packet V) → Place → Ballot → Phase V × Option V → Type 0
Learned js ps p b (phase, None) = Stands js ps p b phase
Learned js ps p b (phase, Some v) = Stands js ps p b phase × IsChosen js p v

module _ {V : Type 0} {first : List (List (Note V))} {Rest : List (List (Note V)) → List (Packet V) → Type 0} (a : Replicas V) (h : Holds first Rest a) (p : Place) (b : Ballot) where
  pub promise_counts : (own : V) (phase : Phase V) (r : ℕ) (prior : Option (Ballot × V)) → Stands a.journals a.packets p b phase → IsGrant a.journals r p b prior → Asked a.journals a.packets p b (on_promise own phase r prior)
  promise_counts own (Promising marks best) r prior stands grant = grind (arith, asks_on, asked)
  promise_counts own (Accepting v marks) r prior stands grant = stands
  promise_counts own Ended r prior stands grant = tt

  pub acceptance_counts : (phase : Phase V) (r : ℕ) → Stands a.journals a.packets p b phase → IsAnswered a.journals (Offered a.packets) r p b → Learned a.journals a.packets p b (on_accepted phase r)
  acceptance_counts (Promising marks best) r stands answer = stands
  acceptance_counts (Accepting v marks) r stands answer =
      let next = offers_on r v (h.facts (Accept p b v) stands.offered) stands answer in
      cond_both (is_new marks r) _ _ (Learned a.journals a.packets p b)
      (λ _. cond_both (is_most (set marks r true)) _ _ (Learned a.journals a.packets p b) (λ most. (tt, accepted v next most)) (λ _. next))
      (λ _. stands)
  acceptance_counts Ended r stands answer = tt

-- ---- replicas

pub holds_restored : {V : Type 0} (journals : List (List (Note V))) (Rest : List (List (Note V)) → List (Packet V) → Type 0) → JournalsAgree journals → Rest journals [] → Holds journals Rest (restored journals)
holds_restored journals Rest agree rest = record { agree = agree; remembered = λ r p. refl; facts = λ x s. absurd s; kept = λ p v c. c; rest = rest }

pub was_sent : {V : Type 0} (ps : List (Packet V)) (k : ℕ) (x : Packet V) → slice_get ps k ≡ Some x → Mem x ps
was_sent [] k x e = none_some x e
was_sent (y ∷ ps) zero x e = inl (some_same y x e)
was_sent (y ∷ ps) (suc k) x e = inr (was_sent ps k x e)

module _ {V : Type 0} {first : List (List (Note V))} {Rest : List (List (Note V)) → List (Packet V) → Type 0} where
  -- the rest of the world changes
  pub holds_with : {Now : List (List (Note V)) → List (Packet V) → Type 0} (a : Replicas V) → Holds first Rest a → Now a.journals a.packets → Holds first Now a
  holds_with a h rest = record { agree = h.agree; remembered = h.remembered; facts = h.facts; kept = h.kept; rest = rest }

  -- The value of an attempt is sent, of which nothing was heard before.
  pub holds_offered : {Now : List (List (Note V)) → List (Packet V) → Type 0} (a : Replicas V) (p : Place) (b : Ballot) (v : V) → Holds first Rest a → IsUnheard a.journals (Offered a.packets) p b → IsSafe (length a.journals) (votes a.journals p) b v → Now a.journals (Accept p b v ∷ a.packets) → Holds first Now (sent a (Accept p b v))
  holds_offered {Now} a p b v h unheard safe rest = record { agree = h.agree; remembered = h.remembered; facts = facts; kept = h.kept; rest = rest }
    where
      x : Packet V
      x = Accept p b v

      facts : (y : Packet V) → Mem y (x ∷ a.packets) → Fact a.journals (x ∷ a.packets) y
      facts y (inl e) = subst (Fact a.journals (x ∷ a.packets)) e (first_offer a.journals p b v (λ u s. ⊎_elim (λ (e : x ≡ Accept p b u). inr (cc)) (λ (o : Offered a.packets p b u). inl o) s) unheard safe)
      facts y (inr s) = fact_sent a.journals a.packets x y (λ q c u is w e. absurd (unheard.not_offered u (let place : q ≡ p = cc in let ballot : c ≡ b = cc in subst (λ (z : Place × Ballot). Offered a.packets z.0 z.1 u) (λ i. (place i, ballot i)) (subst (λ z. Mem z a.packets) is s)))) (h.facts y s)

module _ {V : Type 0} (a : Replicas V) (r : ℕ) (p : Place) (b : Ballot) where
  -- the vote that a turn casts: no other is above it, and what it accepts was sent
  abbrev IsCast : Option (Vote V) → Type 0
  IsCast None = Unit {0}
  IsCast (Some x) = Rises (votes a.journals p r) x × ((c : Ballot) (v : V) → acceptance c v ≡ x → Offered a.packets p c v)

  promise_cast : (vote : Option (Vote V)) → IsPromiseVote (votes a.journals p r) b vote → IsCast vote
  promise_cast vote fits = grind arith

  acceptance_cast : (v : V) → Offered a.packets p b v → (vote : Option (Vote V)) → IsAcceptanceVote (votes a.journals p r) b v vote → IsCast vote
  acceptance_cast v s vote fits = grind arith

  taken_fact : (v : V) (t : Taken) → Offered a.packets p b v → IsOnly (votes a.journals p) b v → TakenHolds (votes a.journals p r) b t → Fact a.journals a.packets (taken r p b t)
  taken_fact v t s only h = grind arith

module _ {V : Type 0} {first : List (List (Note V))} {Rest : List (List (Note V)) → List (Packet V) → Type 0} (lasts : Lasts Rest) where
  pub holds_sent : (a : Replicas V) (x : Packet V) → Holds first Rest a → ((p : Place) (b : Ballot) → IsQuiet x p b) → Fact a.journals a.packets x → Holds first Rest (sent a x)
  holds_sent a x h quiet fact = grind (arith, fact_sent)

  holds_casts : (a : Replicas V) (r : ℕ) (p : Place) (x : Vote V) → Holds first Rest a → r < length a.journals → Rises (votes a.journals p r) x → ((b : Ballot) (v : V) → acceptance b v ≡ x → Offered a.packets p b v) → Holds first Rest (casts a r p (Some x))
  holds_casts a r p x h within rises told =
      let suits = vote_suits (Offered a.packets) a.journals r p x rises (λ b v e. (told b v e, h.facts (Accept p b v) (told b v e))) in
      let writes = λ (q : Place). note_writes (Offered a.packets) a.journals r (note_of p x) q within (suits q) in
      record {
        agree = λ q. note_agrees (Offered a.packets) a.journals r (note_of p x) q within (suits q) (h.agree q);
        remembered = λ k q. remembered k q (k == r) (is_place p q) refl refl;
        facts = λ y s. fact_written a.packets writes y (h.facts y s);
        kept = λ q v c. chosen_written (writes q) v (h.kept q v c);
        rest = lasts.written a.journals (noted a.journals r (note_of p x)) a.packets writes h.rest;
      }
    where
      apart : (k : ℕ) (q : Place) → is_place p q ≡ false → a.cells k q ≡ cell_of (votes (noted a.journals r (note_of p x)) q k)
      apart k q f = h.remembered k q ∙ ap (λ ys. cell_of ys) (sym (note_elsewhere a.journals r p q x within f k))

      remembered : (k : ℕ) (q : Place) (s t : Bool) → (k == r) ≡ s → is_place p q ≡ t → cond (s && t) (cell_after (a.cells r p) x) (a.cells k q) ≡ cell_of (votes (noted a.journals r (note_of p x)) q k)
      remembered k q true true e f =
          let same : k ≡ r = grind (arith, nat_tests) in
          let one = note_casts a.journals r p x within rises in
          grind (arith, cell_push)
      remembered k q true false e f = apart k q f
      remembered k q false false e f = apart k q f
      remembered k q false true e f =
          let one = note_casts a.journals r p x within rises in
          let apart : k ≡ r → ⊥ = λ same. grind (arith, nat_tests) in
          grind (arith, cell_of, votes, noted, note_of)

  -- a turn casts its vote, and answers
  answers_holds : (a : Replicas V) (r : ℕ) (p : Place) (b : Ballot) (vote : Option (Vote V)) (x : Packet V) → Holds first Rest a → r < length a.journals → IsCast a r p b vote → ((q : Place) (c : Ballot) → IsQuiet x q c) → (Holds first Rest (casts a r p vote) → votes (casts a r p vote).journals p r ≡ after (votes a.journals p r) vote → Fact (casts a r p vote).journals (casts a r p vote).packets x) → Holds first Rest (sent (casts a r p vote) x)
  answers_holds a r p b None x h within cast quiet fact = holds_sent a x h quiet (fact h refl)
  answers_holds a r p b (Some y) x h within cast quiet fact =
      let next = holds_casts a r p y h within cast.0 cast.1 in
      holds_sent (casts a r p (Some y)) x next quiet (fact next (note_casts a.journals r p y within cast.0).cast.is)

  knows : (a : Replicas V) → Holds first Rest a → (r : ℕ) (p : Place) → Knows (votes a.journals p r) (a.cells r p)
  knows a h r p = subst (Knows (votes a.journals p r)) (sym (h.remembered r p)) (cell_knows (votes a.journals p r) ((h.agree p).rising r))

  comes_holds : (same : V → V → Bool) (a : Replicas V) (r : ℕ) (o : Option (Packet V)) → Holds first Rest a → r < length a.journals → ((x : Packet V) → o ≡ Some x → Mem x a.packets) → Holds first Rest (comes same a r o)
  comes_holds same a r (Some (Prepare p b)) h within s =
      let turn = prepare_holds (votes a.journals p r) (a.cells r p) b (knows a h r p) in
      let vote = (on_prepare (a.cells r p) b).0 in
      answers_holds a r p b vote _ h within (promise_cast a r p b vote turn.0) (λ q c v e. grind arith) (λ next e. grind arith)
  comes_holds same a r (Some (Accept p b v)) h within s =
      let turn = accept_holds same (votes a.journals p r) (a.cells r p) b v (knows a h r p) in
      let vote = (on_accept same (a.cells r p) b v).0 in
      let told = s (Accept p b v) refl in
      answers_holds a r p b vote _ h within (acceptance_cast a r p b v told vote turn.0) (λ q c v e. grind arith)
      (λ next e. let still : Offered (casts a r p vote).packets p b v = grind arith in
      taken_fact (casts a r p vote) r p b v _ still (next.facts (Accept p b v) still).only (subst (λ ys. TakenHolds ys b (on_accept same (a.cells r p) b v).1) (sym e) turn.1))
  comes_holds same a r _ h within s = h

  pub arrives_holds : (same : V → V → Bool) (a : Replicas V) (r which : ℕ) → Holds first Rest a → Holds first Rest (arrives same a r which)
  arrives_holds same a r which h =
      cond_both (nat_lt r (length a.journals)) _ a (Holds first Rest) (λ e. comes_holds same a r (slice_get a.packets which) h (ltb-true r (length a.journals) e) (was_sent a.packets which)) (λ _. h)

pub restarts_holds : {V : Type 0} {first : List (List (Note V))} {Rest : List (List (Note V)) → List (Packet V) → Type 0} (a : Replicas V) (r : ℕ) → Holds first Rest a → Holds first Rest (restarts a r)
restarts_holds a r h = grind arith

-- what was decided begins what is decided
pub decided_kept : {V : Type 0} {first : List (List (Note V))} {Rest : List (List (Note V)) → List (Packet V) → Type 0} (a : Replicas V) → Holds first Rest a → JournalsAgree first → (same : V → V → Bool) (shard : ℕ) → IsExact same → Begins (decided same first shard) (decided same a.journals shard)
decided_kept a h agree same shard exact =
    let one = agreed_one a.journals h.agree in
    decided_begin _ a.journals shard _ _ one (decided_is same exact _ (agreed_one _ agree) shard) (decided_is same exact a.journals one shard) h.kept
