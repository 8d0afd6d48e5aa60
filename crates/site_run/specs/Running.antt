-- What a run of both sites' nodes is from, and what it leaves.
use Rattle.std.specs.Prelude.{◌≡◌, ◌≢◌, ℕ, ◌+◌, ◌≤◌, Bool, true, List, [], ◌∷◌, ◌++◌, slice_index_or, Option, Some, IsTrue}
use Rattle.site_run.specs.Terms.{Begin, BusEntry, Disks, Dispatcher, Entry, IsAtRest, IsNode, IsRunOf, Joiner, Kind, LAST_EPOCH, Node, NodeDisk, NodeFault, PlanView, Reached, Replica, Server, Setting, Start, StateOf, down_over, is_in_turn, made_by, node_number, opening, stop_count, world_after}
use Rattle.air_bus.specs.declared.entry.Phase.TheVariants.{Busy}
use Rattle.air_bus.specs.Waiting.{is_dead}
use Rattle.site_node.specs.declared.kind.NodeFault.TheVariants.{Damaged, Spent}
use Rattle.site_run.specs.AnyNodes.{AnyState, any_of, any_phase}

-- the node's disk kept this epoch
abbrev pub KeptEpoch : Disks → Node → ℕ → Type 0
KeptEpoch d (Dispatcher s) epoch = ⊥
KeptEpoch d (Server s) epoch = (d.servers s).epoch ≡ epoch
KeptEpoch d (Replica r) epoch = ⊥
KeptEpoch d (Joiner j) epoch = (d.joiners j).epoch ≡ epoch

-- By the last of its entries the node of a number starts, and the epoch that its disk keeps is this one, the last. What it kept at first is
-- below it by no more than the node has stopped since.
pub record HasCome (n : ℕ) (mine : List BusEntry) (kept epoch : ℕ) : Type 0 where
  pub starts : (front : List BusEntry) × (mine ≡ front ++ Begin n Start ∷ [])
  pub last : epoch ≡ LAST_EPOCH
  pub least : kept ≤ epoch
  pub most : epoch ≤ kept + stop_count mine

-- so does a node with an epoch; no other comes to one
abbrev pub ComesToLast : Disks → List BusEntry → Node → ℕ → Type 0
ComesToLast d h n epoch = (kept : ℕ) × KeptEpoch d n kept × HasCome (node_number n) (made_by (node_number n) h) kept epoch

module _ {N : Type 0} (places : N → AnyState → Type 0) where
  -- each node of the setting is the one of its number, and is down over its own records
  abbrev pub AreDownOver : Setting → Disks → List N → Type 0
  AreDownOver g d nodes = (n : Node) → IsNode g n → (a : N) → places (slice_index_or nodes (node_number n) a) (any_of n (down_over g d n))

  -- The history is a run of the whole system from these records, and each node stands where it says. Where all nodes rest the
  -- system does, and no node has an open turn. No node is told as damaged, and as spent only one that came to its last epoch.
  pub record IsRunFrom (g : Setting) (d : Disks) (h : List BusEntry) (nodes : List (N × Option NodeFault)) (rest : Bool) : Type 0 where
    pub at : (n : Node) → StateOf n
    pub entries : List Entry
    pub run : IsRunOf g d h at entries
    pub stand : (n : Node) → IsNode g n → (a : N × Option NodeFault) → places (slice_index_or nodes (node_number n) a).0 (any_of n (at n))
    pub at_rest : IsTrue rest → IsAtRest g (world_after g (opening d) entries)
    pub closed : IsTrue rest → (n : Node) → IsNode g n → any_phase (any_of n (at n)) ≢ Busy
    pub still : IsTrue rest → (n : Node) → IsNode g n → is_in_turn (made_by (node_number n) h) ≢ true
    pub whole : (n : Node) → IsNode g n → (a : N × Option NodeFault) (disk : NodeDisk) (place : ℕ) → (slice_index_or nodes (node_number n) a).1 ≢ Some (Damaged disk place)
    pub spent : (n : Node) → IsNode g n → (a : N × Option NodeFault) (epoch : ℕ) → (slice_index_or nodes (node_number n) a).1 ≡ Some (Spent epoch) → ComesToLast d h n epoch

-- each node of the setting that the plan takes for a dead replica is a replica
abbrev pub DeadAreReplicas : Setting → PlanView → List Kind → Type 0
DeadAreReplicas g plan kinds = (n : Node) → IsNode g n → is_dead plan.dead kinds (node_number n) ≡ true → (r : ℕ) × (n ≡ Replica r)

-- each node's disks went on from where they were when it was opened
abbrev pub HaveGrown : {N : Type 0} → (N → N → Type 0) → Setting → List N → List (N × Option NodeFault) → Type 0
HaveGrown grown g vs ws = (n : Node) → IsNode g n → (a : _) (b : _) → (k : ℕ) × Reached grown k (slice_index_or vs (node_number n) a) (slice_index_or ws (node_number n) b).0
