-- The facts of packets and of what nodes know: what holds at every moment of a run. A fact that holds of a packet goes
-- on to hold, whatever happens after it was sent.
use Rattle.std.specs.Prelude.{◌≡◌, ◌≢◌, ◌⊎◌, ℕ, ◌<◌, ◌≤◌, true, false, MatchBool, List, [], ◌∷◌, length, Option, Some, None, ⊤, slice_get}
use Rattle.photon_model.specs.Terms.{Accept, Accepting, Already, Ballot, Batch, Begins, Busy, Chosen, ClickLine, Deliver, Dispatcher, DispatcherKept, DispatcherLive, Distinct, Duplicate, Each, EachPair, Ended, EventId, Flight, Fresh, Granted, Input, Insert, IsGranted, IsJoin, IsJoiner, Join, Joined, Joiner, JoinerKept, JoinerLive, Mem, Nack, NoQuery, Node, Own, Packet, PairRec, Phase, Prepare, Promise, Promising, Proposal, Replica, ReplicaKept, Reply, Sent, Server, ServerKept, ServerLive, Setting, ShardState, Start, Tick, TooOld, Written, at, bound_of, first, has, insert_of}
use Rattle.registry_state.specs.declared.Answer.{Answer}
use Rattle.turn_defs.specs.declared.packet.Packet.TheVariants.{Accepted}
use Rattle.turn_defs.specs.declared.packet.Packet.TheVariants as packet
use Rattle.turn_defs.specs.declared.packet.Outcome.{Outcome}
use Rattle.turn_defs.specs.declared.packet.Outcome.TheVariants as outcome
use Rattle.photon_model.specs.Sound.{Known, values_of, IsWritten, IsSettled, HasNoQuery, DispatcherSound, JoinerSound, DrawnSound, IsInsertOf, InsertsOf, known_of}
use Rattle.photon_model.specs.Runs.{Cell, World, WasSent, disks}

module _ (g : Setting) (n : Known) where
  -- i lies below a bound that is decided
  abbrev pub IsTooOld : EventId → ℕ → Type 0
  IsTooOld i b = (i.micros < b) × (b ≤ bound_of (values_of g n i))

  abbrev pub HoldsOfOutcome : ClickLine → Outcome → Type 0
  HoldsOfOutcome l Written = IsWritten g n l.click.id
  HoldsOfOutcome l (Already h) = IsGranted (values_of g n l.click.id) l.click.id h
  HoldsOfOutcome l (outcome.TooOld b) = IsTooOld l.click.id b
  HoldsOfOutcome l (NoQuery m) = (m ≡ length g.queries) × (first g.queries l.click.query ≡ None)
  HoldsOfOutcome l Busy = ⊤

  abbrev pub HoldsOfReply : Insert → Answer → Type 0
  HoldsOfReply x Granted = IsGranted (values_of g n x.id) x.id x.token
  HoldsOfReply x (Duplicate h) = (h ≢ x.token) × IsGranted (values_of g n x.id) x.id h
  HoldsOfReply x (TooOld b) = IsTooOld x.id b

  abbrev pub HoldsOfBatch : ℕ → Batch → Type 0
  HoldsOfBatch s v = Each (IsInsertOf g n s) v.inserts

  abbrev pub HoldsOfBest : ℕ → Option (Ballot × Batch) → Type 0
  HoldsOfBest s None = ⊤
  HoldsOfBest s (Some x) = HoldsOfBatch s x.1

  -- the facts of a packet but for those on ballots, which are Paxos' own
  abbrev pub HoldsOf : Packet → Type 0
  HoldsOf (Join p c) = (l : ClickLine) × (at g.clicks p ≡ Some l) × (l.click ≡ c)
  HoldsOf (Joined p o) = (l : ClickLine) × (at g.clicks p ≡ Some l) × HoldsOfOutcome l o
  HoldsOf (packet.Insert x) = Mem x n.drawn
  HoldsOf (Reply x a) = HoldsOfReply x a
  HoldsOf (Prepare p b) = ⊤
  HoldsOf (Promise p b prior) = HoldsOfBest p.shard prior
  HoldsOf (Nack p b above) = ⊤
  HoldsOf (Accept p b v) = HoldsOfBatch p.shard v
  HoldsOf (Accepted p b) = ⊤
  HoldsOf (Chosen p v) = slice_get (n.values p.shard) p.slot ≡ Some v

  -- the facts of what a turn takes
  abbrev pub HoldsOfInput : Input → Type 0
  HoldsOfInput (Deliver from p) = HoldsOf p
  HoldsOfInput Start = ⊤
  HoldsOfInput Own = ⊤
  HoldsOfInput Tick = ⊤

  -- fresh entries: the lines from e up to p
  abbrev pub IsLineOf : Fresh → Type 0
  IsLineOf f = at g.clicks f.position ≡ Some (record { place = f.position; end_ = f.end_; click = f.click })

  abbrev pub Covers : ℕ → List Fresh → ℕ → Type 0
  Covers e [] p = e ≡ p
  Covers e (f ∷ fs) p = (f.position ≡ e) × IsLineOf f × Covers f.end_ fs p

  -- a done entry is pending or settled, any other is not pending
  abbrev pub IsFreshSound : List ℕ → Fresh → Type 0
  IsFreshSound pending f = MatchBool f.done ((has pending f.position ≡ true) ⊎ IsSettled g n f.click.id) (has pending f.position ≡ false)

  pub record DispatcherHolds (k : DispatcherKept) (l : DispatcherLive) : Type 0 where
    pub covers : Covers k.offset l.fresh l.place
    pub each : Each (IsFreshSound k.pending) l.fresh
    pub due_pending : (p : ℕ) → has l.due p ≡ true → has k.pending p ≡ true
    pub trying_pending : (p : ℕ) → has l.trying p ≡ true → has k.pending p ≡ true
    pub due_once : Distinct l.due
    pub trying_once : Distinct l.trying
    pub apart : (p : ℕ) → has l.due p ≡ true → has l.trying p ≡ false
    pub others : (p : ℕ) → has k.pending p ≡ true → ((has l.due p ≡ true) ⊎ (has l.trying p ≡ true)) ⊎ HasNoQuery g p
    pub at_end : l.ended ≡ true → at g.clicks l.place ≡ None

  -- a join in flight
  pub record FlightHolds (j now next : ℕ) (f : Flight) : Type 0 where
    pub own_query : IsJoin g f.click f.query
    pub line : (l : ClickLine) × (at g.clicks f.position ≡ Some l) × (l.click ≡ f.click)
    pub claimed : Mem (insert_of f) n.drawn
    pub joiner : f.token.joiner ≡ j
    pub epoch : f.token.epoch ≡ now
    pub number : f.token.number < next

  pub record JoinerHolds (j : ℕ) (k : JoinerKept) (l : JoinerLive) : Type 0 where
    pub flights : Each (FlightHolds j k.epoch l.number) l.flight
    pub unused : (x : Insert) → Mem x n.drawn → x.token.joiner ≡ j → x.token.epoch ≡ k.epoch → x.token.number < l.number
    pub ids_differ : EachPair (λ (a b : Flight). a.click.id ≢ b.click.id) l.flight
    pub unwritten : Each (λ (f : Flight). Each (λ (p : PairRec). p.token ≢ f.token) k.pairs) l.flight

  abbrev pub HoldsOfPhase : ℕ → Phase Batch → Type 0
  HoldsOfPhase s (Promising marks best) = HoldsOfBest s best
  HoldsOfPhase s (Accepting v marks) = HoldsOfBatch s v
  HoldsOfPhase s Ended = ⊤

  abbrev pub HoldsOfProposal : ℕ → Option Proposal → Type 0
  HoldsOfProposal s None = ⊤
  HoldsOfProposal s (Some p) = HoldsOfBatch s p.own × HoldsOfPhase s p.phase

  pub record ShardHolds (s : ℕ) (st : ShardState) : Type 0 where
    pub learned : Begins st.learned (n.values s)
    pub queue : Each (IsInsertOf g n s) st.queue
    pub proposal : HoldsOfProposal s st.proposal

  abbrev pub ServerHolds : ServerLive → Type 0
  ServerHolds l = (s : ℕ) → ShardHolds s (l.shards s)

-- the volatile part holds where the node is up
abbrev pub IfUp : {L : Type 0} → (L → Type 0) → Option L → Type 0
IfUp P None = ⊤
IfUp P (Some l) = P l

-- the open turn's packet was sent to this node
abbrev pub IfOpen : List Sent → Node → Option Input → Type 0
IfOpen sent n None = ⊤
IfOpen sent n (Some i) = WasSent sent n i

abbrev pub known : Setting → World → List Insert → Known
known g w drawn = known_of g (disks w) drawn

pub record DispatcherFacts (g : Setting) (n : Known) (sent : List Sent) (s : ℕ) (c : Cell DispatcherKept DispatcherLive) : Type 0 where
  pub kept : DispatcherSound g n c.kept
  pub live : IfUp (DispatcherHolds g n c.kept) c.live
  pub opened : IfOpen sent (Dispatcher s) c.opened

pub record JoinerFacts (g : Setting) (n : Known) (sent : List Sent) (j : ℕ) (c : Cell JoinerKept JoinerLive) : Type 0 where
  pub kept : JoinerSound g n j c.kept
  pub live : IfUp (JoinerHolds g n j c.kept) c.live
  pub opened : IfOpen sent (Joiner j) c.opened

pub record ServerFacts (g : Setting) (n : Known) (sent : List Sent) (s : ℕ) (c : Cell ServerKept ServerLive) : Type 0 where
  pub live : IfUp (ServerHolds g n) c.live
  pub opened : IfOpen sent (Server s) c.opened

pub record ReplicaFacts (g : Setting) (n : Known) (sent : List Sent) (r : ℕ) (c : Cell ReplicaKept (Unit {0})) : Type 0 where
  pub kept : Each (InsertsOf g n) c.kept.notes
  pub opened : IfOpen sent (Replica r) c.opened

-- All that holds at every moment, but for what Paxos keeps of ballots. drawn are the inserts whose tokens were drawn or kept.
pub record WorldHolds (g : Setting) (w : World) (drawn : List Insert) : Type 0 where
  pub packets : (x : Sent) → Mem x w.sent → HoldsOf g (known g w drawn) x.packet
  pub dispatchers : (s : ℕ) → s < 2 → DispatcherFacts g (known g w drawn) w.sent s (w.dispatchers s)
  pub joiners : (j : ℕ) → IsJoiner g j → JoinerFacts g (known g w drawn) w.sent j (w.joiners j)
  pub servers : (s : ℕ) → s < 2 → ServerFacts g (known g w drawn) w.sent s (w.servers s)
  pub replicas : (r : ℕ) → r < g.config.replicas → ReplicaFacts g (known g w drawn) w.sent r (w.replicas r)
  pub drawing : DrawnSound g (known g w drawn) (λ j. (w.joiners j).kept.epoch)
