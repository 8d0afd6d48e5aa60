-- Laws on the disks of all nodes of a setting.
use Rattle.std.specs.Prelude.{◌≡◌, ◌≢◌, ℕ, ◌≤◌, List, ◌∷◌, length, slice_index_or, None, Some, true}
use Rattle.std.specs.List.{list_any}
use Rattle.site_run.specs.Terms.{BusEntry, Config, DiskName, Disks, Entry, Images, IsDisk, IsJoiner, IsNode, IsOfOne, IsRunOf, KeepsTopology, Lent, Mem, NoJoinerStops, Node, NodeDisk, Reached, Setting, StateOf, TopologyDisk, is_stop, made_by, node_count, node_number, topology_of}
use Rattle.site_node.specs.declared.kind.SiteNode.{Ghosts}
use Rattle.site_run.specs.AnyNodes.{AnyState, any_of}
use Rattle.site_run.specs.Held.{HoldsAs, HaveGoneOn}
use Rattle.site_run.specs.Naming.{log_read}
use Rattle.site_run.specs.Resting.{IsClosed, KeepsAs}

-- The nodes of a setting in the order of their numbers, and the disks that each has by its number: they hold what its state says.
pub record AllHold {N D : Type 0} (image : D → List ℕ → Type 0) (disks_of : ℕ → N → List (Lent D)) (g : Setting) (at : (n : Node) → StateOf n) (nodes : List N) : Type 0 where
  pub count : length nodes ≡ node_count g
  pub each : (n : Node) → IsNode g n → (a : N) → HoldsAs image g.config n (at n) (disks_of (node_number n) (slice_index_or nodes (node_number n) a))

-- of a setting's disk a stop leaves what it may leave of the topology's or of a node's
abbrev pub IsLeftBy : {D : Type 0} → (D → List ℕ → Type 0) → Setting → Lent D → List (Lent D) → Images → Type 0
IsLeftBy image g topology held left = (disk : DiskName) → IsDisk g disk → (c : List ℕ) → left disk c → IsOfOne image (topology ∷ held) disk c

-- the topology's disk has its name, and keeps the setting's record whatever a stop leaves of it
pub record KeepsItsRecord {D : Type 0} (image : D → List ℕ → Type 0) (g : Setting) (topology : Lent D) : Type 0 where
  pub named : topology.name ≡ TopologyDisk
  pub keeps : (c : List ℕ) → image topology.disk c → KeepsTopology (Some (topology_of g)) c

-- no joiner's entries have a stop
abbrev pub NoJoinerStopped : Setting → List BusEntry → Type 0
NoJoinerStopped g h = (j : ℕ) → IsJoiner g j → list_any is_stop (made_by j h) ≡ true → ⊥

-- a joiner's entries have one
abbrev pub JoinerStopped : Setting → List BusEntry → Type 0
JoinerStopped g h = (j : ℕ) × IsJoiner g j × (list_any is_stop (made_by j h) ≡ true)

-- then no joiner stops in the run
abbrev pub NoneStops : Type 0
NoneStops =
    (g : Setting) (d : Disks) (h : List BusEntry) (at : (n : Node) → StateOf n) (es : List Entry) → IsRunOf g d h at es → NoJoinerStopped g h → NoJoinerStops es

-- ---- of a kind of node

-- A node at a state has disks that hold what the state says, and without an open turn each alone what the state keeps; and as it
-- grows its disks go on.
pub record AreHeld {N D : Type 0} (image : D → List ℕ → Type 0) (places : N → AnyState → Type 0) (grown : N → N → Type 0) (disks_of : Config → ℕ → N → List (Lent D)) : Type 0 where
  pub held : (config : Config) (n : Node) (t : StateOf n) (v : N) → places v (any_of n t) → HoldsAs image config n t (disks_of config (node_number n) v)
  pub rested : (config : Config) (n : Node) (t : StateOf n) (v : N) → IsClosed n t → places v (any_of n t) → KeepsAs image config n t (disks_of config (node_number n) v)
  pub gone_on : (config : Config) (number k : ℕ) (v w : N) → Reached grown k v w → HaveGoneOn image (disks_of config number v) (disks_of config number w)

-- A node's faults are those of its disks and of its log. One that stands at a state of a node without a log meets none of a log.
pub record AreMet {N D L : Type 0} (disk_faults : D → ℕ) (log_faults : L → ℕ) (m : Ghosts N) (places : N → AnyState → Type 0) (disks_of : Config → ℕ → N → List (Lent D)) (logs_of : N → List L) : Type 0 where
  pub disks : (config : Config) (number : ℕ) (v : N) → 1 ≤ m.faults v → (l : Lent D) × Mem l (disks_of config number v) × (1 ≤ disk_faults l.disk)
  pub each : (config : Config) (number : ℕ) (v : N) (disk : NodeDisk) → 1 ≤ m.disk_faults v disk → (l : Lent D) × Mem l (disks_of config number v) × (1 ≤ disk_faults l.disk)
  pub logs : (v : N) → 1 ≤ m.log_faults v → (l : L) × Mem l (logs_of v) × (1 ≤ log_faults l)
  pub reads : (n : Node) (t : StateOf n) (v : N) → places v (any_of n t) → 1 ≤ m.log_faults v → log_read n ≢ None
