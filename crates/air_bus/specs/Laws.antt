-- What follows for a history that an Air made: a node's entries alternate, and what was delivered was sent.
use Rattle.std.specs.Prelude.{◌≡◌, ℕ, List, [], ◌∷◌, ◌++◌, map, ⊤}
use Rattle.list_words.specs.Lists.{Mem}
use Rattle.air_bus.specs.declared.entry.Input.{Input}
use Rattle.air_bus.specs.declared.entry.Input.TheVariants.{Start, Tick, Own, Packet}
use Rattle.air_bus.specs.declared.entry.Entry.{Entry}
use Rattle.air_bus.specs.declared.entry.Entry.TheVariants.{Begin, End, Stop}
use Rattle.air_bus.specs.declared.entry.Phase.{Phase}
use Rattle.air_bus.specs.declared.entry.Phase.TheVariants.{Down, Idle, Busy}
use Rattle.air_bus.specs.History.{node_of, phase}

-- whether a turn starts its node
abbrev pub IsStart : Input → Type 0
IsStart Start = ⊤
IsStart Tick = ⊥
IsStart Own = ⊥
IsStart (Packet from bytes) = ⊥

-- an entry of a node that stands so: down, it starts; up, it takes something else; in a turn, it ends or stops
abbrev pub Fits : Phase → Entry → Type 0
Fits Down (Begin node input) = IsStart input
Fits Idle (Begin node input) = IsStart input → ⊥
Fits Busy (Begin node input) = ⊥
Fits Busy (End node noted packets kept) = ⊤
Fits Busy (Stop node landed) = ⊤
Fits Down (End node noted packets kept) = ⊥
Fits Idle (End node noted packets kept) = ⊥
Fits Down (Stop node landed) = ⊥
Fits Idle (Stop node landed) = ⊥

-- each entry fits where its node stands after those before it
pub record Alternates (h : List Entry) : Type 0 where
  pub each : (before after : List Entry) (e : Entry) → h ≡ before ++ e ∷ after → Fits (phase (node_of e) before) e

-- a packet on its way
pub record Sent : Type 0 where
  pub from : ℕ
  pub to : ℕ
  pub bytes : List ℕ

abbrev pub sent_to : ℕ → ℕ × List ℕ → Sent
sent_to from p = record { from = from; to = p.0; bytes = p.1 }

abbrev pub sent_by : Entry → List Sent
sent_by (Begin node input) = []
sent_by (End node noted packets kept) = map (sent_to node) packets
sent_by (Stop node landed) = []

-- all packets of the ends
abbrev pub sent : List Entry → List Sent
sent [] = []
sent (e ∷ es) = sent_by e ++ sent es

-- each packet that a turn begins with was sent before, by that sender to that node
pub record DeliveredWasSent (h : List Entry) : Type 0 where
  pub each : (before after : List Entry) (node from : ℕ) (bytes : List ℕ) → h ≡ before ++ Begin node (Packet from bytes) ∷ after
      → Mem (record { from = from; to = node; bytes = bytes }) (sent before)
