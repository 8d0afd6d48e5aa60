-- Replicas, and servers that learn the values of each shard in the order of its slots.
use Rattle.std.specs.Prelude.{ℕ, suc, max, ◌≤◌, Bool, if◌then◌else◌, ◌&&◌, ◌==◌, List, [], ◌∷◌, ◌++◌, length, slice_get, Option, Some, None}
use Rattle.paxos_world.specs.Terms.{Ballot, Has, JournalsAgree, Note, Phase, Place, Promising, Vote, is_same, nobody, on_accepted, on_promise, set_at, votes}
use Rattle.paxos_world.specs.Replicas.{Packet, Replicas, restored, sent, arrives, restarts}
use Rattle.paxos_world.specs.Replicas.Packet.{Prepare, Promise, Nack, Accept, Accepted, Chosen}

pub record Proposal (V : Type 0) : Type 0 where
  pub ballot : Ballot
  pub own : V
  pub phase : Phase V

-- What a server knows of a shard: the values of its first slots, and its proposal for the next slot.
pub record Shard (V : Type 0) : Type 0 where
  pub learned : List V
  pub proposal : Option (Proposal V)

-- What a server loses when it stops. round is the greatest round that it used or was told of.
pub record Live (V : Type 0) : Type 0 where
  pub round : ℕ
  pub shards : ℕ → Shard V

-- epoch outlives a stop
pub record Server (V : Type 0) : Type 0 where
  pub epoch : ℕ
  pub live : Option (Live V)

pub record World (V : Type 0) : Type 0 where
  pub replicas : Replicas V
  pub servers : ℕ → Server V

-- What may happen next. Server s proposes a value for a shard. A packet that was sent comes, to replica r or to
-- server s: any one, at any time, again and again. A replica restarts, and keeps its notes. A server stops, and keeps
-- its epoch, and starts in the next one.
pub data Event (V : Type 0) : Type 0 where
  Proposes : ℕ → ℕ → V → Event V
  Comes : ℕ → ℕ → Event V
  Returns : ℕ → ℕ → Event V
  ReplicaRestarts : ℕ → Event V
  Stops : ℕ → Event V
  Starts : ℕ → Event V

-- the slot behind what is learned
abbrev pub next_place : {V : Type 0} → Live V → ℕ → Place
next_place l shard = record { shard = shard; slot = length (l.shards shard).learned }

-- all servers are down, and nothing is sent
abbrev pub opened : {V : Type 0} → List (List (Note V)) → (ℕ → ℕ) → World V
opened journals epochs = record { replicas = restored journals; servers = λ s. record { epoch = epochs s; live = None } }

abbrev pub sends : {V : Type 0} → World V → Packet V → World V
sends w x = record w { replicas = sent w.replicas x }

-- server s goes on as this
abbrev pub with_server : {V : Type 0} → World V → ℕ → Server V → World V
with_server w s server = record w { servers = set_at w.servers s server }

-- a round and a shard's state are replaced
abbrev pub goes_on : {V : Type 0} → World V → ℕ → Live V → ℕ → ℕ → Shard V → World V
goes_on w s l round shard st = with_server w s (record { epoch = (w.servers s).epoch; live = Some (record { round = round; shards = set_at l.shards shard st }) })

-- a proposal at the next round, for the slot behind what is learned
abbrev pub begins : {V : Type 0} → World V → ℕ → ℕ → V → Live V → Option (Proposal V) → World V
begins w s shard own l (Some a) = w
begins w s shard own l None =
    let b : Ballot = record { round = suc l.round; epoch = (w.servers s).epoch; site = s } in
    let a : Proposal _ = record { ballot = b; own = own; phase = Promising (nobody (length w.replicas.journals)) None } in
    sends (goes_on w s l (suc l.round) shard (record (l.shards shard) { proposal = Some a })) (Prepare (next_place l shard) b)

-- the shard's proposal comes to this phase
abbrev pub phase_after : {V : Type 0} → World V → ℕ → Live V → ℕ → Proposal V → Phase V → World V
phase_after w s l shard a phase = goes_on w s l l.round shard (record (l.shards shard) { proposal = Some (record a { phase = phase }) })

-- a value more is learned, and the proposal is gone
abbrev pub learns : {V : Type 0} → World V → ℕ → Live V → ℕ → V → World V
learns w s l shard v = goes_on w s l l.round shard (record { learned = (l.shards shard).learned ++ v ∷ []; proposal = None })

abbrev pub promise_counted : {V : Type 0} → World V → ℕ → Live V → ℕ → Proposal V → Phase V × Option V → World V
promise_counted w s l shard a (phase, None) = phase_after w s l shard a phase
promise_counted w s l shard a (phase, Some v) = sends (phase_after w s l shard a phase) (Accept (next_place l shard) a.ballot v)

abbrev pub acceptance_counted : {V : Type 0} → World V → ℕ → Live V → ℕ → Proposal V → Phase V × Option V → World V
acceptance_counted w s l shard a (phase, None) = phase_after w s l shard a phase
acceptance_counted w s l shard a (phase, Some v) = sends (learns w s l shard v) (Chosen (next_place l shard) v)

-- an answer is counted if it speaks of the proposal
abbrev pub counts : {V : Type 0} → World V → Live V → Place → Ballot → (Proposal V → World V) → Option (Proposal V) → World V
counts w l p b f None = w
counts w l p b f (Some a) = if p.slot == length (l.shards p.shard).learned && is_same b a.ballot then f a else w

abbrev pub packet_returns : {V : Type 0} → World V → ℕ → Live V → Packet V → World V
packet_returns w s l (Promise r p b prior) = counts w l p b (λ a. promise_counted w s l p.shard a (on_promise a.own a.phase r prior)) (l.shards p.shard).proposal
packet_returns w s l (Accepted r p b) = counts w l p b (λ a. acceptance_counted w s l p.shard a (on_accepted a.phase r)) (l.shards p.shard).proposal
packet_returns w s l (Nack r p b promised) = counts w l p b (λ a. goes_on w s l (max l.round promised.round) p.shard (record (l.shards p.shard) { proposal = None })) (l.shards p.shard).proposal
packet_returns w s l (Chosen p v) = if p.slot == length (l.shards p.shard).learned then learns w s l p.shard v else w
packet_returns w s l _ = w

abbrev pub nothing_known : {V : Type 0} → Live V
nothing_known = record { round = 0; shards = λ shard. record { learned = []; proposal = None } }

-- what a server does if it is up
abbrev pub if_up : {V : Type 0} → World V → (Live V → World V) → Option (Live V) → World V
if_up w f None = w
if_up w f (Some l) = f l

-- a packet comes to it, if it was sent
abbrev pub returns : {V : Type 0} → World V → ℕ → Live V → Option (Packet V) → World V
returns w s l None = w
returns w s l (Some x) = packet_returns w s l x

-- a server that is down starts in the next epoch
abbrev pub starts : {V : Type 0} → World V → ℕ → Option (Live V) → World V
starts w s (Some l) = w
starts w s None = with_server w s (record { epoch = suc (w.servers s).epoch; live = Some nothing_known })

abbrev pub happens : {V : Type 0} → (V → V → Bool) → World V → Event V → World V
happens same w (Proposes s shard own) = if_up w (λ l. begins w s shard own l (l.shards shard).proposal) (w.servers s).live
happens same w (Comes r which) = record w { replicas = arrives same w.replicas r which }
happens same w (Returns s which) = if_up w (λ l. returns w s l (slice_get w.replicas.packets which)) (w.servers s).live
happens same w (ReplicaRestarts r) = record w { replicas = restarts w.replicas r }
happens same w (Stops s) = with_server w s (record { epoch = (w.servers s).epoch; live = None })
happens same w (Starts s) = starts w s (w.servers s).live

abbrev pub run : {V : Type 0} → (V → V → Bool) → List (Event V) → World V → World V
run same [] w = w
run same (e ∷ es) w = run same es (happens same w e)

-- each ballot in a journal names an epoch of its server that was kept
abbrev pub EpochsKept : {V : Type 0} → List (List (Note V)) → (ℕ → ℕ) → Type 0
EpochsKept {V} journals epochs = (p : Place) (r : ℕ) (x : Vote V) → Has (votes journals p r) x → x.ballot.epoch ≤ epochs x.ballot.site

-- what server s has learned of a shard
abbrev pub learned_of : {V : Type 0} → Option (Live V) → ℕ → List V
learned_of None shard = []
learned_of (Some l) shard = (l.shards shard).learned

-- P holds of the first journals and of the world after every run from them, where the first journals agree, their
-- ballots' epochs were kept, and whatever test on values the replicas use.
abbrev pub EveryRun : {V : Type 0} → (List (List (Note V)) → World V → Type 0) → Type 0
EveryRun {V} P =
    (same : V → V → Bool) (first : List (List (Note V))) (epochs : ℕ → ℕ) (events : List (Event V)) →
    JournalsAgree first → EpochsKept first epochs → P first (run same events (opened first epochs))
