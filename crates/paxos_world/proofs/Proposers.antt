-- Each event of replicas and proposers keeps what holds, and so does each run.
use Rattle.std.proofs.Common.{◌≡◌, ℕ, suc, List, [], ◌∷◌, length, get_or, replicate, Bool, true, false, cond, Option, Some, None, inl, refl, sym, ap, ◌∙◌, subst, arith, slice_get}
use Rattle.paxos_world.proofs.Words.{cond_both, Mem, Each, each_more, Ballot, is_same, same_true, same_false, Place, is_place, Note, IsChosen, JournalsAgree, Phase, Attempt, nobody, on_promise, on_accepted, Promising, Ended, IsGrant, IsAnswered, IsUnheard, Writes, place_true, not_noted, unheard_written, chosen_written, unheard_sent, asks, offers, Packet, Prepare, Promise, Nack, Accept, Accepted, draws, proposes, ProposerRestarts}
use Rattle.paxos_world.specs.World.{World, Event, opened, goes_on, promise_counted, acceptance_counted, counts, returns, happens, run}
use Rattle.paxos_world.specs.World.Event.{Proposes, Comes, Returns, ReplicaRestarts}
use Rattle.paxos_world.proofs.Replicas.{Offered, Stands, Holds, IsQuiet, Lasts, stands_written, accept_came, stands_sent, Asked, promise_counts, Learned, acceptance_counts, was_sent, holds_offered, holds_sent, arrives_holds, restarts_holds}

-- A ballot that wasn't drawn was never heard of, and one that was drawn may have an attempt.
abbrev pub BallotStands : {V : Type 0} → List (List (Note V)) → List (Packet V) → Ballot → Bool → Option (Attempt V) → Type 0
BallotStands js ps b false o = ((p : Place) → IsUnheard js (Offered ps) p b) × (o ≡ None)
BallotStands js ps b true None = Unit {0}
BallotStands js ps b true (Some a) = Stands js ps a.place b a.phase

-- what holds of the proposers
pub record Proposers {V : Type 0} (drawn : Ballot → Bool) (attempts : Ballot → Option (Attempt V)) (values : List (Place × V)) (js : List (List (Note V))) (ps : List (Packet V)) : Type 0 where
  pub ballots : (b : Ballot) → BallotStands js ps b (drawn b) (attempts b)
  pub learned : Each (λ (x : Place × V). IsChosen js x.0 x.1) values

abbrev pub WorldHolds : {V : Type 0} → List (List (Note V)) → World V → Type 0
WorldHolds first w = Holds first (Proposers w.drawn w.attempts w.learned) w.replicas

module _ {V : Type 0} (js : List (List (Note V))) (ps : List (Packet V)) (b : Ballot) where
  ballot_written : (js' : List (List (Note V))) → ((q : Place) → Writes (Offered ps) js js' q) → (drawn : Bool) (o : Option (Attempt V)) → BallotStands js ps b drawn o → BallotStands js' ps b drawn o
  ballot_written js' writes false o h = ((λ p. unheard_written (writes p) b (h.0 p)), h.1)
  ballot_written js' writes true None h = tt
  ballot_written js' writes true (Some a) h = stands_written ps writes a.place b a.phase h

  ballot_sent : (x : Packet V) (drawn : Bool) (o : Option (Attempt V)) → ((p : Place) → IsQuiet x p b) → BallotStands js ps b drawn o → BallotStands js (x ∷ ps) b drawn o
  ballot_sent x false o quiet h = ((λ p. unheard_sent js p b (accept_came js ps x p b (quiet p)) (h.0 p)), h.1)
  ballot_sent x true None quiet h = tt
  ballot_sent x true (Some a) quiet h = stands_sent js ps x a.place b a.phase (quiet a.place) h

lasts : {V : Type 0} (w : World V) → Lasts (Proposers w.drawn w.attempts w.learned)
lasts {V} w =
    record {
      written = λ js js' ps writes h. record {
        ballots = λ b. ballot_written js ps b js' writes (w.drawn b) (w.attempts b) (h.ballots b);
        learned = each_more _ _ w.learned (λ x. chosen_written (writes x.0) x.1) h.learned;
      };
      sent = λ js ps x quiet h. record { ballots = λ b. ballot_sent js ps b x (w.drawn b) (w.attempts b) (λ p. quiet p b) (h.ballots b); learned = h.learned };
    }

-- ---- at the start

holds_opened : {V : Type 0} (journals : List (List (Note V))) → JournalsAgree journals → WorldHolds journals (opened journals)
holds_opened {V} journals agree = grind (arith, not_noted)

no_notes : {V : Type 0} (n r : ℕ) → get_or (replicate n []) r [] ≡ (let none : List (Note V) = [] in none)
no_notes (suc n) (suc r) = no_notes n r
no_notes _ _ = refl

-- journals without notes agree
pub empty_agree : {V : Type 0} (n : ℕ) → JournalsAgree {V = V} (replicate n [])
empty_agree {V} n p = grind (arith, no_notes)

-- ---- the proposers' events

-- a ballot that was drawn has this attempt, and the others theirs
attempt_set : {V : Type 0} (w : World V) (b : Ballot) (a : Attempt V) (js : List (List (Note V))) (ps : List (Packet V)) → w.drawn b ≡ true → Stands js ps a.place b a.phase → ((c : Ballot) → is_same c b ≡ false → BallotStands js ps c (w.drawn c) (w.attempts c)) → (c : Ballot) → BallotStands js ps c (w.drawn c) (cond (is_same c b) (Some a) (w.attempts c))
attempt_set w b a js ps drawn stands others c =
    cond_both (is_same c b) (Some a) (w.attempts c) (BallotStands js ps c (w.drawn c))
    (λ e. let same = same_true c b e in subst (λ t. BallotStands js ps c t (Some a)) (sym (ap w.drawn same ∙ drawn)) (subst (λ z. Stands js ps a.place z a.phase) (sym same) stands))
    (others c)

module _ {V : Type 0} {first : List (List (Note V))} where
  holds_goes_on : (w : World V) (b : Ballot) (a : Attempt V) (phase : Phase V) → WorldHolds first w → w.drawn b ≡ true → Stands w.replicas.journals w.replicas.packets a.place b phase → WorldHolds first (goes_on w b a phase)
  holds_goes_on w b a phase h drawn stands = grind (arith, attempt_set)

  promise_holds : (w : World V) (b : Ballot) (a : Attempt V) (t : Phase V × Option V) → WorldHolds first w → w.drawn b ≡ true → Asked w.replicas.journals w.replicas.packets a.place b t → WorldHolds first (promise_counted w b a t)
  promise_holds w b a (phase, None) h drawn stands = holds_goes_on w b a phase h drawn stands
  promise_holds w b a (phase, Some v) h drawn (is, unheard, safe) =
      holds_offered w.replicas a.place b v h unheard safe
      (record { ballots = attempt_set w b (record a { phase = phase }) js (x ∷ ps) drawn (subst (Stands js (x ∷ ps) a.place b) (sym is) (offers v (inl refl))) (λ c e. ballot_sent js ps c x (w.drawn c) (w.attempts c) (λ p u k. same_false c b e (cc)) (h.rest.ballots c)); learned = h.rest.learned })
    where
      js : List (List (Note V))
      js = w.replicas.journals

      ps : List (Packet V)
      ps = w.replicas.packets

      x : Packet V
      x = Accept a.place b v

  acceptance_holds : (w : World V) (b : Ballot) (a : Attempt V) (t : Phase V × Option V) → WorldHolds first w → w.drawn b ≡ true → Learned w.replicas.journals w.replicas.packets a.place b t → WorldHolds first (acceptance_counted w b a t)
  acceptance_holds w b a (phase, None) h drawn stands = holds_goes_on w b a phase h drawn stands
  acceptance_holds w b a (phase, Some v) h drawn (stands, chosen) = grind (arith, holds_goes_on)

  counts_holds : (w : World V) (b : Ballot) (f : Attempt V → World V) → WorldHolds first w → ((a : Attempt V) → w.drawn b ≡ true → Stands w.replicas.journals w.replicas.packets a.place b a.phase → WorldHolds first (f a)) → WorldHolds first (counts w f (w.attempts b))
  counts_holds w b f h holds = grind arith

  ends_holds : (w : World V) (b : Ballot) → WorldHolds first w → WorldHolds first (counts w (λ a. goes_on w b a Ended) (w.attempts b))
  ends_holds w b h = counts_holds w b _ h (λ a drawn stands. holds_goes_on w b a Ended h drawn tt)

  returns_holds : (w : World V) (o : Option (Packet V)) → WorldHolds first w → ((x : Packet V) → o ≡ Some x → Mem x w.replicas.packets) → WorldHolds first (returns w o)
  returns_holds w (Some (Promise r p b prior)) h s =
      counts_holds w b _ h (λ a drawn stands. cond_both (is_place p a.place) _ w (WorldHolds first)
      (λ e. promise_holds w b a (on_promise a.own a.phase r prior) h drawn
      (promise_counts w.replicas h a.place b a.own a.phase r prior stands (subst (λ q. IsGrant w.replicas.journals r q b prior) (place_true p a.place e) (h.facts (Promise r p b prior) (s (Promise r p b prior) refl)))))
      (λ _. h))
  returns_holds w (Some (Accepted r p b)) h s =
      counts_holds w b _ h (λ a drawn stands. cond_both (is_place p a.place) _ w (WorldHolds first)
      (λ e. acceptance_holds w b a (on_accepted a.phase r) h drawn
      (acceptance_counts w.replicas h a.place b a.phase r stands (subst (λ q. IsAnswered w.replicas.journals (Offered w.replicas.packets) r q b) (place_true p a.place e) (h.facts (Accepted r p b) (s (Accepted r p b) refl)))))
      (λ _. h))
  returns_holds w (Some (Nack r p b promised)) h s = ends_holds w b h
  returns_holds w _ h s = h

  proposes_holds : (w : World V) (p : Place) (b : Ballot) (own : V) → WorldHolds first w → w.drawn b ≡ false → WorldHolds first (proposes w p b own)
  proposes_holds w p b own h fresh =
      let a : Attempt V = record { place = p; own = own; phase = Ended } in
      let phase : Phase V = Promising (nobody (length w.replicas.journals)) None in
      let unheard = (subst (λ t. BallotStands w.replicas.journals w.replicas.packets b t (w.attempts b)) fresh (h.rest.ballots b)).0 p in
      holds_sent (lasts (goes_on (draws w b) b a phase)) w.replicas (Prepare p b) (holds_goes_on (draws w b) b a phase (grind arith) (grind arith) (asks unheard)) (λ q c v e. cc) tt

  happens_holds : (same : V → V → Bool) (w : World V) (e : Event V) → WorldHolds first w → WorldHolds first (happens same w e)
  happens_holds same w (Proposes p b own) h = cond_both (w.drawn b) w (proposes w p b own) (WorldHolds first) (λ _. h) (proposes_holds w p b own h)
  happens_holds same w (Comes r which) h = arrives_holds (lasts w) same w.replicas r which h
  happens_holds same w (Returns which) h = returns_holds w (slice_get w.replicas.packets which) h (was_sent w.replicas.packets which)
  happens_holds same w (ReplicaRestarts r) h = restarts_holds w.replicas r h
  happens_holds same w (ProposerRestarts b) h = ends_holds w b h

  run_holds : (same : V → V → Bool) (events : List (Event V)) (w : World V) → WorldHolds first w → WorldHolds first (run same events w)
  run_holds same [] w h = h
  run_holds same (e ∷ es) w h = run_holds same es (happens same w e) (happens_holds same w e h)

pub after_run : {V : Type 0} (same : V → V → Bool) (journals : List (List (Note V))) (events : List (Event V)) → JournalsAgree journals → WorldHolds journals (run same events (opened journals))
after_run same journals events agree = run_holds same events (opened journals) (holds_opened journals agree)
