-- Rows at one shard: when they are taken, and in which form their functions give them.
use Rattle.std.specs.Prelude.{◌≡◌, ℕ, suc, ◌<◌, ◌++◌, ◌∷◌, [], ◌&&◌, ◌==◌, List, if◌then◌else◌, Option, Some, None, ⊤}
use Rattle.registry_server.specs.Terms.{Ballot, Batch, Out, Packet, Place, Proposer, ServerKept, ServerLive, Setting, ShardState, To, ballot_of, idle, learns, may_propose, proposes, replies, shard, shards, to_replicas, with_shard, same_ballot}
use Rattle.turn_defs.specs.declared.packet.Packet.TheVariants as packet
use Rattle.registry_server.specs.Stations.{setting}
use Rattle.registry_server.specs.ShardStates.{IsShard, FitsStep}
use Rattle.registry_server.specs.Cores.{Gives, Turn}
use Rattle.registry_server.specs.declared.station.Station.{Station}
use Rattle.registry_server.specs.declared.shard.Shard.{Shard}
use Rattle.registry_server.specs.declared.turn.Change.{Change}
use Rattle.registry_server.specs.declared.turn.Change.TheVariants as change

-- the shard stands for the one of this number, and the greatest round is this
pub record IsAt (g : Setting) (h : Shard) (number r : ℕ) (l : ServerLive) : Type 0 where
  pub within : number < shards g
  pub round : l.round ≡ r
  pub stands : IsShard h (l.shards number)

-- the change is one of this shard alone, which has what it needs
abbrev pub FitsAt : ℕ → Change → Shard → Type 0
FitsAt n change.Nothing h = ⊤
FitsAt n change.Tick h = ⊥
FitsAt n (change.One s round step) h = (s ≡ n) × FitsStep step h

-- the Own row at one shard
abbrev pub proposes_if : Setting → ℕ → ServerKept → ServerLive → ℕ → Out ServerLive
proposes_if g site k l s =
    if may_propose g (l.shards s) then proposes g site k l s (l.shards s) (record { round = suc l.round; epoch = k.epoch; site = site }) else idle l

-- a value is learned, and the Replies go behind other packets
abbrev pub learns_behind : Setting → ℕ → ServerKept → ServerLive → ℕ → Batch → List (To × Packet) → Out ServerLive
learns_behind g site k l s v packets =
    record {
      note = None;
      packets = packets ++ replies g site ((l.shards s).learned ++ v ∷ []) (l.shards s).queue;
      live = with_shard g site k l s (learns g site (l.shards s) v);
    }

-- the number of the shard that a packet is about
abbrev pub number_of : Setting → Packet → Option ℕ
number_of g (packet.Insert x) = Some (shard g x.id)
number_of g (packet.Chosen at v) = Some at.shard
number_of g (packet.Promise at b prior) = Some at.shard
number_of g (packet.Accepted at b) = Some at.shard
number_of g (packet.Nack at b above) = Some at.shard
number_of g _ = None

-- the proposal, where it is at the slot and the ballot
abbrev pub current_in : ℕ → Ballot → ℕ → Option Proposer → Option Proposer
current_in slot b next None = None
current_in slot b next (Some p) = if (slot == next) && same_ballot (ballot_of p) b then Some p else None

abbrev pub current_of : Shard → ℕ → Ballot → Option Proposer
current_of h slot b = current_in slot b h.next h.proposal

-- every one of n replicas is asked to accept the value, if there is one
abbrev pub accept_all : (n : ℕ) → Place → Ballot → Option Batch → List (To × Packet)
accept_all n at b None = []
accept_all n at b (Some v) = to_replicas n (packet.Accept at b v)

-- at the shard of this number, the turn is what the row makes of any setting with the server's numbers
abbrev pub IsRow : Station → Shard → ℕ → ℕ → Turn → (Setting → ServerKept → ServerLive → Out ServerLive) → Type 0
IsRow t h n r turn row = (g : Setting) (k : ServerKept) (l : ServerLive) → IsAt (setting t g) h n r l → Gives (setting t g) t.site l turn (row (setting t g) k l)

-- the same, where it also has to be about this packet
abbrev pub IsRowOf : Station → Shard → ℕ → ℕ → Packet → Turn → (Setting → ServerKept → ServerLive → Out ServerLive) → Type 0
IsRowOf t h n r p turn row =
    (g : Setting) (k : ServerKept) (l : ServerLive) → IsAt (setting t g) h n r l → number_of (setting t g) p ≡ Some n → Gives (setting t g) t.site l turn (row (setting t g) k l)

-- whatever the shard stood for it stands for
abbrev pub StaysShard : Shard → Shard → Type 0
StaysShard old new = (st : ShardState) → IsShard old st → IsShard new st
