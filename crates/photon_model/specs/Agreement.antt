-- The facts of packets and proposals on ballots: Paxos' own, over the packets, servers and journals here.
use Rattle.std.specs.Prelude.{◌≡◌, ℕ, ◌<◌, ◌≤◌, List, length, Option, Some, None, ⊤}
use Rattle.photon_model.specs.Terms.{Accept, Accepting, Ballot, BallotNote, Batch, Chosen, Dispatcher, Ended, HasAccepted, Join, Joined, Joiner, JournalsAgree, Mem, Nack, Node, Packet, Phase, Place, Prepare, Promise, Promising, Proposal, Replica, Reply, Server, ServerLive, ShardState}
use Rattle.paxos_defs.specs.Notes.{Vote, votes, Has}
use Rattle.paxos_defs.specs.Facts.{IsGrant, IsRefusal, IsOffer, IsAnswered, IsAsking, IsOffering}
use Rattle.turn_defs.specs.declared.packet.Packet.TheVariants.{Insert, Accepted}

-- a ballot of a server whose kept epoch is no lower
abbrev pub IsOwned : (ℕ → ℕ) → Ballot → Type 0
IsOwned epochs b = (b.site < 2) × (b.epoch ≤ epochs b.site)

abbrev pub AreOwned : List (List BallotNote) → (ℕ → ℕ) → Type 0
AreOwned js epochs = (at : Place) (r : ℕ) (x : Vote Batch) → Has (votes js at r) x → IsOwned epochs x.ballot

-- The replicas' journals agree, and their ballots are those of servers' kept epochs.
pub record ReplicasSound (js : List (List BallotNote)) (epochs : ℕ → ℕ) : Type 0 where
  pub agree : JournalsAgree js
  pub owned : AreOwned js epochs

-- ---- during a run

-- a value that was sent, or accepted before the run
pub record Offer : Type 0 where
  pub place : Place
  pub ballot : Ballot
  pub value : Batch

abbrev pub offer : Place → Ballot → Batch → Offer
offer at b v = record { place = at; ballot = b; value = v }

-- what only grows: the replicas' journals, the values offered, the servers' epochs
pub record Votes : Type 0 where
  pub journals : List (List BallotNote)
  pub offered : List Offer
  pub epochs : ℕ → ℕ

abbrev pub OfferedIn : List Offer → Place → Ballot → Batch → Type 0
OfferedIn offered at b v = Mem (offer at b v) offered

module _ (n : Votes) where
  abbrev pub Offered : Place → Ballot → Batch → Type 0
  Offered = OfferedIn n.offered

  abbrev pub PromisedBy : Node → Place → Ballot → Option (Ballot × Batch) → Type 0
  PromisedBy (Replica r) at b prior = IsGrant n.journals r at b prior
  PromisedBy (Dispatcher r) at b prior = ⊤
  PromisedBy (Server r) at b prior = ⊤
  PromisedBy (Joiner r) at b prior = ⊤

  abbrev pub AcceptedBy : Node → Place → Ballot → Type 0
  AcceptedBy (Replica r) at b = IsAnswered n.journals Offered r at b
  AcceptedBy (Dispatcher r) at b = ⊤
  AcceptedBy (Server r) at b = ⊤
  AcceptedBy (Joiner r) at b = ⊤

  abbrev pub NackedBy : Node → Place → Ballot → Ballot → Type 0
  NackedBy (Replica r) at b c = IsRefusal n.journals r at b c
  NackedBy (Dispatcher r) at b c = ⊤
  NackedBy (Server r) at b c = ⊤
  NackedBy (Joiner r) at b c = ⊤

  -- what holds of a packet's ballots
  abbrev pub VotesOf : Node → Packet → Type 0
  VotesOf from (Prepare at b) = IsOwned n.epochs b
  VotesOf from (Promise at b prior) = PromisedBy from at b prior
  VotesOf from (Accept at b v) = Offered at b v
  VotesOf from (Accepted at b) = AcceptedBy from at b
  VotesOf from (Join p c) = ⊤
  VotesOf from (Joined p o) = ⊤
  VotesOf from (Insert x) = ⊤
  VotesOf from (Reply x a) = ⊤
  VotesOf from (Nack at b c) = NackedBy from at b c
  VotesOf from (Chosen at v) = ⊤

  abbrev pub VotesOfPhase : Place → Ballot → Phase Batch → Type 0
  VotesOfPhase at b (Promising marks best) = IsAsking n.journals Offered at b marks best
  VotesOfPhase at b (Accepting v marks) = IsOffering n.journals Offered at b v marks
  VotesOfPhase at b Ended = ⊤

  pub record Attempt (site epoch round : ℕ) (at : Place) (p : Proposal) : Type 0 where
    pub site_is : p.ballot.site ≡ site
    pub epoch_is : p.ballot.epoch ≡ epoch
    pub round_is : p.ballot.round ≤ round
    pub phase : VotesOfPhase at p.ballot p.phase

  abbrev pub VotesOfProposal : ℕ → ℕ → ℕ → Place → Option Proposal → Type 0
  VotesOfProposal site epoch round at None = ⊤
  VotesOfProposal site epoch round at (Some p) = Attempt site epoch round at p

  abbrev pub next_place : ℕ → ShardState → Place
  next_place s st = record { shard = s; slot = length st.learned }

  pub record VotesOfServer (site epoch : ℕ) (l : ServerLive) : Type 0 where
    pub rounds : (x : Offer) → Mem x n.offered → x.ballot.site ≡ site → x.ballot.epoch ≡ epoch → x.ballot.round ≤ l.round
    pub shards : (s : ℕ) → VotesOfProposal site epoch l.round (next_place s (l.shards s)) (l.shards s).proposal

  -- the values offered, and the records
  pub record VotesAgree : Type 0 where
    pub agree : JournalsAgree n.journals
    pub offers : (x : Offer) → Mem x n.offered → IsOffer n.journals Offered x.place x.ballot x.value
    pub took : (at : Place) (r : ℕ) (b : Ballot) (v : Batch) → HasAccepted (votes n.journals at r) b v → Offered at b v
    pub owned_offers : (x : Offer) → Mem x n.offered → IsOwned n.epochs x.ballot
    pub owned_notes : AreOwned n.journals n.epochs
