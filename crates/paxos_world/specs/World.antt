-- Replicas and proposers, and what may happen to them.
use Rattle.std.specs.Prelude.{ℕ, Bool, if◌then◌else◌, ◌||◌, List, [], ◌∷◌, length, slice_get, Option, Some, None}
use Rattle.paxos_world.specs.Terms.{Attempt, Ballot, Each, Ended, IsChosen, JournalsAgree, Note, Phase, Place, Promising, is_noted, is_place, is_same, nobody, on_accepted, on_promise}
use Rattle.paxos_world.specs.Replicas.{Packet, Replicas, restored, sent, arrives, restarts}
use Rattle.paxos_world.specs.Replicas.Packet.{Prepare, Promise, Nack, Accept, Accepted}

pub record World (V : Type 0) : Type 0 where
  pub replicas : Replicas V
  -- the ballots that were drawn, now or before
  pub drawn : Ballot → Bool
  -- the attempt at each ballot that was drawn now
  pub attempts : Ballot → Option (Attempt V)
  -- what proposers have learned
  pub learned : List (Place × V)

-- What may happen next. A value is proposed for a place at a ballot that wasn't drawn before. A packet that was sent
-- comes, to a replica or back to its proposer: any one, at any time, again and again. A loss is a packet that never
-- comes. A replica keeps its notes over a restart, a proposer nothing.
pub data Event (V : Type 0) : Type 0 where
  Proposes : Place → Ballot → V → Event V
  Comes : ℕ → ℕ → Event V
  Returns : ℕ → Event V
  ReplicaRestarts : ℕ → Event V
  ProposerRestarts : Ballot → Event V

abbrev pub opened : {V : Type 0} → List (List (Note V)) → World V
opened journals = record { replicas = restored journals; drawn = λ b. is_noted b journals; attempts = λ b. None; learned = [] }

abbrev pub sends : {V : Type 0} → World V → Packet V → World V
sends w x = record w { replicas = sent w.replicas x }

-- the attempt at b comes to this phase
abbrev pub goes_on : {V : Type 0} → World V → Ballot → Attempt V → Phase V → World V
goes_on w b a phase = record w { attempts = λ c. if is_same c b then Some (record a { phase = phase }) else w.attempts c }

-- with a value, all are asked to accept it
abbrev pub promise_counted : {V : Type 0} → World V → Ballot → Attempt V → Phase V × Option V → World V
promise_counted w b a (phase, None) = goes_on w b a phase
promise_counted w b a (phase, Some v) = sends (goes_on w b a phase) (Accept a.place b v)

-- with a value, it is learned
abbrev pub acceptance_counted : {V : Type 0} → World V → Ballot → Attempt V → Phase V × Option V → World V
acceptance_counted w b a (phase, None) = goes_on w b a phase
acceptance_counted w b a (phase, Some v) = record (goes_on w b a phase) { learned = (a.place, v) ∷ w.learned }

-- an answer to an attempt, if there is one
abbrev pub counts : {V : Type 0} → World V → (Attempt V → World V) → Option (Attempt V) → World V
counts w f None = w
counts w f (Some a) = f a

-- the answer of replica r comes to the proposer of the attempt at its ballot, if it speaks of its place
abbrev pub returns : {V : Type 0} → World V → Option (Packet V) → World V
returns w (Some (Promise r p b prior)) = counts w (λ a. if is_place p a.place then promise_counted w b a (on_promise a.own a.phase r prior) else w) (w.attempts b)
returns w (Some (Accepted r p b)) = counts w (λ a. if is_place p a.place then acceptance_counted w b a (on_accepted a.phase r) else w) (w.attempts b)
returns w (Some (Nack r p b promised)) = counts w (λ a. goes_on w b a Ended) (w.attempts b)
returns w _ = w

-- the ballot is drawn
abbrev pub draws : {V : Type 0} → World V → Ballot → World V
draws w b = record w { drawn = λ c. is_same c b || w.drawn c }

-- a proposal at a ballot that wasn't drawn before
abbrev pub proposes : {V : Type 0} → World V → Place → Ballot → V → World V
proposes w p b own =
    sends (goes_on (draws w b) b (record { place = p; own = own; phase = Ended }) (Promising (nobody (length w.replicas.journals)) None)) (Prepare p b)

abbrev pub happens : {V : Type 0} → (V → V → Bool) → World V → Event V → World V
happens same w (Proposes p b own) = if w.drawn b then w else proposes w p b own
happens same w (Comes r which) = record w { replicas = arrives same w.replicas r which }
happens same w (Returns which) = returns w (slice_get w.replicas.packets which)
happens same w (ReplicaRestarts r) = record w { replicas = restarts w.replicas r }
happens same w (ProposerRestarts b) = counts w (λ a. goes_on w b a Ended) (w.attempts b)

-- a whole run
abbrev pub run : {V : Type 0} → (V → V → Bool) → List (Event V) → World V → World V
run same [] w = w
run same (e ∷ es) w = run same es (happens same w e)

-- what proposers have learned is chosen
abbrev pub AllChosen : {V : Type 0} → World V → Type 0
AllChosen {V} w = Each (λ (x : Place × V). IsChosen w.replicas.journals x.0 x.1) w.learned

-- P holds of the first journals and of the world after every run from them, where the first journals agree, and
-- whatever test on values the replicas use.
abbrev pub EveryRun : {V : Type 0} → (List (List (Note V)) → World V → Type 0) → Type 0
EveryRun {V} P = (same : V → V → Bool) (first : List (List (Note V))) (events : List (Event V)) → JournalsAgree first → P first (run same events (opened first))
