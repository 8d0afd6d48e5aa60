-- A server's core as what it stands for, and its turns as rows of the turn table.
use Rattle.std.specs.Prelude.{◌≡◌, ℕ, ◌<◌, List, [], length, get_or, false, Option, None, option_map, ⊤}
use Rattle.registry_server.specs.Terms.{Addressed, Epoch, Input, LAST_EPOCH, Node, Note, Out, ServerKept, ServerLive, Setting, Start, empty_shard, land, land_server, server_start, server_turn, set_at, Packet as Message}
use Rattle.registry_server.specs.Stations.{sent}
use Rattle.registry_server.specs.ShardStates.{EachStands, FitsStep, stepped}
use Rattle.registry_server.specs.declared.shard.Shard.{Shard}
use Rattle.registry_server.specs.declared.shard.Step.{Step}
use Rattle.registry_server.specs.declared.notes.HeldEpoch.{HeldEpoch}
use Rattle.registry_server.specs.declared.turn.Change.{Change}
use Rattle.registry_server.specs.declared.turn.Change.TheVariants as change
use Rattle.site_node.specs.declared.deciding.Turn.{Turn as Decision}
use Rattle.registry_server.specs.declared.server_core.ServerCore.{ServerCore}

abbrev pub Turn : Type 0
Turn = Decision HeldEpoch Change

-- the core stands for a server of the setting, which has this epoch on its disk and knows this
pub record Stands (core : ServerCore) (g : Setting) (k : ServerKept) (l : ServerLive) : Type 0 where
  pub config : g.config ≡ core.station.config
  pub epoch : core.held.epoch ≡ k.epoch
  pub round : core.round ≡ l.round
  pub each : EachStands core.shards.items l.shards

-- the site of the core
abbrev pub site_of : ServerCore → ℕ
site_of core = core.station.site

-- what a server that is down knows
abbrev pub nothing_known : ServerLive
nothing_known = record { round = 0; shards = λ s. empty_shard }

-- a start may raise the epoch
abbrev pub MayRaise : ℕ → Input → Type 0
MayRaise epoch Start = epoch < LAST_EPOCH
MayRaise epoch _ = ⊤

-- the row of an input, up or down: a start leaves what is known
abbrev pub core_row : Setting → ℕ → ServerKept → ServerLive → Input → Out ServerLive
core_row g site k l Start = record { note = (server_start k).note; packets = []; live = l }
core_row g site k l i = server_turn g site k l i

-- the note as a record of the server's disk
abbrev pub note_of : HeldEpoch → Note
note_of next = Epoch next.epoch

-- what the disk holds once the note is written
abbrev pub landed : Option HeldEpoch → ServerKept → ServerKept
landed said k = land land_server (option_map note_of said) k

-- what the server knows after a change
abbrev pub changed : Setting → ℕ → Change → ServerLive → ServerLive
changed g site change.Nothing l = l
changed g site change.Tick l = record l { shards = λ s. record (l.shards s) { held = false } }
changed g site (change.One s round step) l = record { round = round; shards = set_at l.shards s (stepped g site step (l.shards s)) }

-- the turn has no note, these packets, and a step of one shard
pub record IsStep (turn : Turn) (n round : ℕ) (items : List (Node × Message)) (step : Step) : Type 0 where
  pub note : turn.note ≡ None
  pub packets : turn.packets.items ≡ items
  pub change : turn.change ≡ change.One n round step

-- the turn is the row's, up to the form of its packets
pub record Gives (g : Setting) (site : ℕ) (l : ServerLive) (turn : Turn) (out : Out ServerLive) : Type 0 where
  pub note : option_map note_of turn.note ≡ out.note
  pub packets : sent turn.packets.items ≡ out.packets
  pub live : changed g site turn.change l ≡ out.live

-- the turn is the row's: its note, its packets, each to a node that it may go to, and what keeping it makes
pub record IsTurn (g : Setting) (site : ℕ) (l : ServerLive) (turn : Turn) (out : Out ServerLive) : Type 0 where
  pub note : option_map note_of turn.note ≡ out.note
  pub packets : Addressed g out.packets turn.packets.items
  pub live : changed g site turn.change l ≡ out.live

-- the shards have what the change needs
abbrev pub FitsChange : Change → List Shard → Type 0
FitsChange (change.One s round step) xs = (s < length xs) × ((d : Shard) → FitsStep step (get_or xs s d))
FitsChange _ xs = ⊤

-- the turn was decided on the core as it is: it has what keeping the turn needs
pub record Decided (core : ServerCore) (turn : Turn) : Type 0 where
  pub fits : FitsChange turn.change core.shards.items
