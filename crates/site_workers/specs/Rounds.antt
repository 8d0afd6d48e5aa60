-- What rounds of workers keep, and what they leave.
use Rattle.std.specs.Prelude.{◌≡◌, ◌<◌, ℕ, Bool, true, List, [], length, slice_index_or, Option, None, IsTrue, IsSome}
use Rattle.std.specs.List.{All}
use Rattle.air_bus.specs.declared.entry.Entry.{Entry}
use Rattle.air_bus.specs.declared.entry.Input.{Input}
use Rattle.air_bus.specs.declared.entry.Phase.{Phase}
use Rattle.air_bus.specs.declared.entry.Phase.TheVariants.{Idle}
use Rattle.air_bus.specs.History.{phase}
use Rattle.bus_seat.specs.Views.{made_by}
use Rattle.site_node.specs.declared.kind.NodeDisk.{NodeDisk}
use Rattle.site_node.specs.declared.kind.NodeFault.{NodeFault}
use Rattle.site_node.specs.declared.kind.SiteNode.{Ghosts}
use Rattle.site_workers.specs.Works.{WorkerView, LeadsOn, GrowsOn, IsCaused, KeepsPlan, Grew}

module _ {N : Type 0} (m : Ghosts N) where
  -- the worker's entries have led its node on, which has as many disks as it had and keeps to their plan
  pub record WentOn (v w : WorkerView N) : Type 0 where
    pub grew : Grew v.seat w.seat
    pub disks : m.disk_count w.node ≡ m.disk_count v.node
    pub plan : IsTrue m.planned → KeepsPlan m.stops_left m.faults m.waits v.node v.fault v.seat.mine w.node w.fault w.seat.mine
    pub leads_on : IsTrue m.tells → LeadsOn m.leads m.phase_of m.stands m.number m.spends v.node v.fault v.seat.mine w.node w.fault w.seat.mine
    pub grows_on : IsTrue m.tells → GrowsOn m.leads m.phase_of m.stands m.number m.spends m.grown v.node v.fault v.seat.mine w.node

  -- each worker has
  pub record AllWentOn (vs ws : List (WorkerView N)) : Type 0 where
    pub count : length ws ≡ length vs
    pub each : (i : ℕ) (d : WorkerView N) → i < length vs → WentOn (slice_index_or vs i d) (slice_index_or ws i d)

module _ {N S : Type 0} (leads : S → Entry → S → Type 0) (phase_of : S → Phase) (stands : N → S → Type 0) (number : N → ℕ) (spends : S → Input → Option ℕ) where
  -- From where node n stood when it was opened its entries in the history have led it to where it stands.
  abbrev pub Walked : N → N × Option NodeFault → ℕ → List Entry → Type 0
  Walked v w n h = LeadsOn leads phase_of stands number spends v None [] w.0 w.1 (made_by n h)

  -- And its disks have gone on from where they were.
  abbrev pub WentFar : (N → N → Type 0) → N → N × Option NodeFault → Type 0
  WentFar grown v w = GrowsOn leads phase_of stands number spends grown v None [] w.0

-- the node has no fault, is up by its own entries, and says that it rests
pub record Rests {N S : Type 0} (number : N → ℕ) (stands : N → S → Type 0) (at_rest_as : S → Bool → Type 0) (n : N × Option NodeFault) (mine : List Entry) : Type 0 where
  pub whole : n.1 ≡ None
  pub up : phase (number n.0) mine ≡ Idle
  pub rests : (s : S) → stands n.0 s → at_rest_as s true

-- the fault that ended each node's work, if one did, has its cause
abbrev pub AreCaused : {N : Type 0} → (disk_faults : N → NodeDisk → ℕ) → (log_faults : N → ℕ) → List (N × Option NodeFault) → Type 0
AreCaused disk_faults log_faults nodes = All (λ w. IsCaused disk_faults log_faults w.0 w.1) nodes

-- one of these workers has a fault
abbrev pub OneHasFault : {N : Type 0} → List (WorkerView N) → Type 0
OneHasFault workers = (i : ℕ) × (i < length workers) × ((d : _) → IsSome (slice_index_or workers i d).fault)

-- one of these nodes has a fault
abbrev pub HasFault : {N : Type 0} → List (N × Option NodeFault) → Type 0
HasFault nodes = (i : ℕ) × (i < length nodes) × ((b : _) → IsSome (slice_index_or nodes i b).1)
