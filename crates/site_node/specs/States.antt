-- Where a node stands, by its own entries alone. Which bytes it was given stays open until its turn ends.
use Rattle.std.specs.Prelude.{◌≡◌, ◌⊎◌, ℕ, ◌≤◌, List, [], ◌∷◌, length, Bool, Option, Some, None, ⊤}
use Rattle.turn_defs.specs.declared.packet.Packet.{Packet}
use Rattle.turn_defs.specs.declared.node.Node.{Node}
use Rattle.turn_defs.specs.declared.node.Input.{Input}
use Rattle.turn_defs.specs.declared.node.Input.TheVariants.{Start}
use Rattle.air_bus.specs.declared.entry.Input.{Input as Bytes}
use Rattle.air_bus.specs.declared.entry.Input.TheVariants as bytes
use Rattle.air_bus.specs.declared.entry.Entry.{Entry}
use Rattle.air_bus.specs.declared.entry.Entry.TheVariants.{Begin, End, Stop}
use Rattle.air_bus.specs.declared.entry.Phase.{Phase}
use Rattle.air_bus.specs.declared.entry.Phase.TheVariants.{Down, Idle, Busy}
use Rattle.turn_defs.specs.Setting.{Setting}
use Rattle.turn_defs.specs.Nodes.{Addressed}
use Rattle.turn_defs.specs.Turns.{Note, Out, land}
use Rattle.site_node.specs.Bytes.{IsNoted, AreSpelled, Reads, IsJunk}

-- a node of a setting: what its disks hold, what it knows while it is up, and what its open turn began with
pub record State (K L : Type 0) : Type 0 where
  pub setting : Setting
  pub kept : K
  pub live : Option L
  pub opened : Option Bytes

-- the rows of a kind of node: how it starts, what a turn does, and what a note does to the records
pub record Rows (K L : Type 0) : Type 0 where
  pub start : K → Out L
  pub turn : Setting → K → L → Input → Out L
  pub lands : Note → K → K

-- a node that is down starts, and one that is up doesn't
abbrev pub MayTake : {L : Type 0} → Option L → Bytes → Type 0
MayTake None bytes.Start = ⊤
MayTake None _ = ⊥
MayTake (Some l) bytes.Start = ⊥
MayTake (Some l) _ = ⊤

-- the same of the input that the bytes spell
abbrev pub Fits : {L : Type 0} → Option L → Input → Type 0
Fits None Start = ⊤
Fits None _ = ⊥
Fits (Some l) Start = ⊥
Fits (Some l) _ = ⊤

-- where a state stands on the bus
abbrev pub up_phase : {L : Type 0} → Option L → Phase
up_phase None = Down
up_phase (Some l) = Idle

abbrev pub phase_by : {L : Type 0} → Option L → Option Bytes → Phase
phase_by live None = up_phase live
phase_by live (Some b) = Busy

abbrev pub state_phase : {K L : Type 0} → State K L → Phase
state_phase s = phase_by s.live s.opened

-- with this turn opened; closed with these records and this knowledge
abbrev pub opens : {K L : Type 0} → State K L → Bytes → State K L
opens s b = record s { opened = Some b }

abbrev pub closes : {K L : Type 0} → State K L → K → Option L → State K L
closes s k live = record { setting = s.setting; kept = k; live = live; opened = None }

-- what a node that is up answers: what f says of what it keeps and knows
abbrev pub Says : {K L : Type 0} → (Setting → K → L → Bool) → State K L → Bool → Type 0
Says f s b = (l : _) → s.live ≡ Some l → b ≡ f s.setting s.kept l

module _ {K L : Type 0} (rows : Rows K L) where
  -- the row that applies; a node that is down starts
  abbrev pub row_of : Setting → K → Option L → Input → Out L
  row_of g k None i = rows.start k
  row_of g k (Some l) i = rows.turn g k l i

  abbrev pub row : State K L → Input → Out L
  row s i = row_of s.setting s.kept s.live i

  -- what the records are once the row's note is written
  abbrev pub written : State K L → Input → K
  written s i = land rows.lands (row s i).note s.kept

  -- what the disks may hold: the kept records, or those and the open turn's note
  abbrev pub MayHold : State K L → K → Type 0
  MayHold s k = (k ≡ s.kept) ⊎ ((b : Bytes) × (i : Input) × (s.opened ≡ Some b) × Reads s.setting b i × (k ≡ written s i))

  -- The turn is done: its note and its packets are the row's, and the node stands where the row says.
  pub record IsDone (s : State K L) (i : Input) (note : Option (List ℕ)) (ps : List (ℕ × List ℕ)) (t : State K L) : Type 0 where
    pub noted : IsNoted (row s i).note note
    pub packets : List (Node × Packet)
    pub spelled : AreSpelled packets ps
    pub sent : Addressed s.setting (row s i).packets packets
    pub state : t ≡ closes s (written s i) (Some (row s i).live)

  -- What no packet spells does nothing to a node that is up.
  pub record IsIdle (s : State K L) (b : Bytes) (note : Option (List ℕ)) (ps : List (ℕ × List ℕ)) (t : State K L) : Type 0 where
    pub junk : IsJunk s.setting b
    pub no_note : note ≡ None
    pub no_packets : ps ≡ []
    pub knows : L
    pub up : s.live ≡ Some knows
    pub state : t ≡ closes s s.kept (Some knows)

  -- the open turn ends so
  abbrev pub Ends : State K L → Bytes → Option (List ℕ) → List (ℕ × List ℕ) → State K L → Type 0
  Ends s b note ps t = ((i : Input) × Reads s.setting b i × IsDone s i note ps t) ⊎ IsIdle s b note ps t

  -- the node went down: nothing has landed, or the row's note has
  abbrev pub Stops : State K L → Bytes → Option (List ℕ) → State K L → Type 0
  Stops s b landed t =
      ((landed ≡ None) × (t ≡ closes s s.kept None))
      ⊎ ((i : Input) × Reads s.setting b i × IsNoted (row s i).note landed × (t ≡ closes s (written s i) None))

  -- the entry, which is one of this node, may lead from s to t
  abbrev pub Leads : State K L → Entry → State K L → Type 0
  Leads s (Begin n b) t = (s.opened ≡ None) × MayTake s.live b × (t ≡ opens s b)
  Leads s (End n note ps kept) t = (b : Bytes) × (s.opened ≡ Some b) × (kept ≤ length ps) × Ends s b note ps t
  Leads s (Stop n landed) t = (b : Bytes) × (s.opened ≡ Some b) × Stops s b landed t

  -- entries that lead from s to t
  abbrev pub Path : State K L → List Entry → State K L → Type 0
  Path s [] t = s ≡ t
  Path s (e ∷ es) t = (u : State K L) × Leads s e u × Path u es t
