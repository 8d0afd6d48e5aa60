-- Why a run over a store gives up, by what a stop might have left of its disks before it.
use Rattle.std.specs.Prelude.{◌≡◌, ◌⊎◌, ℕ, ◌+◌, ◌≤◌, List, ◌∷◌, true, Option, None, Some, IsSomeAnd, ⊤}
use Rattle.site_run.specs.Terms.{BusEntry, DiskName, Disks, EpochIs, First, HasCause, Images, IsDisk, IsJournalOf, IsKeptIn, IsNode, KeptDisk, KeptValues, LAST_EPOCH, Mem, Node, RunFault, Setting, TopologyDisk, is_in_turn, is_read, joiners_kept, made_by, node_number, other_names, stop_count}
use Rattle.epoch_journal.specs.Epochs.{Keeps as KeepsEpoch}
use Rattle.topology_journal.specs.declared.topology.Topology.{Topology}
use Rattle.topology_journal.specs.Topologies.{Keeps as KeepsTopology}
use Rattle.run_fault.specs.declared.fault.StorePlace.TheVariants as place
use Rattle.run_fault.specs.declared.fault.Misplaced.{Misplaced}
use Rattle.run_fault.specs.declared.fault.RunFault.TheVariants as fault
use Rattle.site_store.specs.Kept.{IsTold, all_kept}
use Rattle.site_store.specs.Records.{AreKept}
use Rattle.site_store.specs.Causes.{HasPassed as PassesFor}
use Rattle.site_run.specs.Causes.{disk_of}
use Rattle.site_run.specs.Naming.{log_read, names_of}
use Rattle.site_run.specs.Running.{ComesToLast, HasCome}
use Rattle.site_run.specs.declared.ran.RunLog.{RunLog}

-- the topology that a setting asks for
abbrev pub asked_of : Setting → Topology
asked_of g = record { joiners = g.config.joiners; table = g.config.table }

-- what is told of the places of the click log that its disks keep: the first that doesn't fit, or none
abbrev pub TellsPlaces : Setting → List KeptDisk → Option Misplaced → Type 0
TellsPlaces g disks told = IsTold g.clicks (all_kept disks) told

abbrev pub PlacesFit : Setting → KeptValues → Type 0
PlacesFit g k = TellsPlaces g k.disks None

-- ---- of a store, by what a stop might have left of its disks

module _ (g : Setting) (before : Images) where
  -- the disks that were opened kept these values
  abbrev pub Kept : KeptValues → Type 0
  Kept k = AreKept true before g.config.replicas g.config.joiners k

  -- they kept values that can be run
  abbrev pub HasPassed : Type 0
  HasPassed = PassesFor true before g.config.replicas (Some (asked_of g)) (TellsPlaces g)

  -- The disk kept an epoch that is below the last one by no more than a node may stop.
  abbrev pub IsNearLast : DiskName → Type 0
  IsNearLast disk = IsKeptIn (before disk) (λ c. (kept : ℕ) × KeepsEpoch kept c × (LAST_EPOCH ≤ kept + 8))

  -- A limit is told late of such a disk, where its node began anew, and so met a fault.
  abbrev pub IsLate : (faulted : Type 0) → RunFault → Type 0
  IsLate faulted (fault.Limit disk value) = faulted × IsNearLast disk
  IsLate faulted _ = ⊥

  -- Why a run gives up. Read and faulted say that the count of the logs' faults rose, and that of the disks'. A limit is told of
  -- what the disks kept, or late.
  abbrev pub IsCauseOf : (read faulted : Type 0) → RunFault → Type 0
  IsCauseOf read faulted f = HasCause true before g.config.replicas (Some (asked_of g)) (TellsPlaces g) (λ log. read) (λ at. faulted) (IsLate faulted f) ⊤ f

  -- ---- disks that are opened

  -- the disk is opened, with whatever number of joiners the topology's may have kept
  abbrev pub IsTaken : DiskName → Type 0
  IsTaken disk = (kept : Option Topology) → IsKeptIn (before TopologyDisk) (KeepsTopology kept) → Mem disk (TopologyDisk ∷ other_names (joiners_kept kept g.config.joiners) g.config.replicas)

  -- a stop might have left a journal of its kind
  abbrev pub WasJournal : DiskName → Type 0
  WasJournal disk = IsKeptIn (before disk) (IsJournalOf disk)

  -- what is kept of each disk that is opened is a journal of its kind
  abbrev pub KeptAreJournals : Type 0
  KeptAreJournals = (k : KeptValues) (disk : DiskName) → Kept k → IsTaken disk → WasJournal disk

-- ---- of a run over a store that was opened

module _ (g : Setting) (h : List BusEntry) where
  abbrev pub stops_of : Node → ℕ
  stops_of n = stop_count (made_by (node_number n) h)

  -- the node of this number has stopped eight times
  abbrev pub HasEnded : ℕ → Type 0
  HasEnded number = (n : Node) × IsNode g n × (number ≡ node_number n) × (stops_of n ≡ 8)

  -- the last of the node's entries begins a turn
  abbrev pub IsInTurn : Node → Type 0
  IsInTurn n = is_in_turn (made_by (node_number n) h) ≡ true

  -- A node has come to the last epoch, which is this one. The disk is that of its epochs, and kept this lower one when it was opened. The
  -- node has stopped, and eight times at most.
  pub record HasSpent (opened : List KeptDisk) (disk : DiskName) (epoch : ℕ) : Type 0 where
    pub node : Node
    pub is : IsNode g node
    pub named : disk ≡ disk_of g.config (node_number node) First
    pub kept : ℕ
    pub was : Mem (record { name = disk; kept = EpochIs kept }) opened
    pub came : HasCome (node_number node) (made_by (node_number node) h) kept epoch
    pub some : 1 ≤ stops_of node
    pub few : stops_of node ≤ 8

  -- What a fault names has failed by the history: a log that a node in a turn reads; a disk of a node in a turn, or, where none is in one, a
  -- disk that is read back; a node that has stopped eight times; the disk of a node that has come to its last epoch, by what the disks kept
  -- when they were opened.
  abbrev pub NamesFailed : (opened : List KeptDisk) → RunFault → Type 0
  NamesFailed opened (fault.Read log) = (n : Node) × IsNode g n × (log_read n ≡ Some log) × IsInTurn n
  NamesFailed opened (fault.Store (place.Node n)) = HasEnded n
  NamesFailed opened (fault.Store (place.Disk disk)) =
      ((n : Node) × IsNode g n × Mem disk (names_of g.config n) × IsInTurn n) ⊎ (((n : Node) → IsNode g n → IsInTurn n → ⊥) × IsDisk g disk × (is_read disk ≡ true))
  NamesFailed opened (fault.Store place.Directory) = ⊥
  NamesFailed opened (fault.Limit disk value) = HasSpent opened disk value
  NamesFailed opened _ = ⊤

  -- A node has come to the last epoch, which is this one. The disk is that of its epochs, and it has stopped eight times at most; where it
  -- has at all a disk met a fault.
  pub record IsSpent (d : Disks) (faulted : Type 0) (disk : DiskName) (epoch : ℕ) : Type 0 where
    pub node : Node
    pub is : IsNode g node
    pub named : disk ≡ disk_of g.config (node_number node) First
    pub came : ComesToLast d h node epoch
    pub few : stops_of node ≤ 8
    pub met : 1 ≤ stops_of node → faulted

-- No disk is told as damaged, and the topology as no other. What failed is named by the history, and a limit of a node that came to its last
-- epoch.
abbrev pub IsOfRun : Setting → Disks → Type 0 → Option RunLog → RunFault → Type 0
IsOfRun g d faulted ran (fault.Read log) = IsSomeAnd ran (λ l. NamesFailed g l.air.history l.opened (fault.Read log))
IsOfRun g d faulted ran (fault.Store at) = IsSomeAnd ran (λ l. NamesFailed g l.air.history l.opened (fault.Store at))
IsOfRun g d faulted ran (fault.Limit disk value) = IsSomeAnd ran (λ l. IsSpent g l.air.history d faulted disk value)
IsOfRun g d faulted ran fault.Memory = ⊤
IsOfRun g d faulted ran _ = ⊥

-- where a fault names a node, that node has stopped eight times, by the run's history
abbrev pub NamesEnded : Option RunLog → RunFault → Type 0
NamesEnded ran f = (n : ℕ) → f ≡ fault.Store (place.Node n) → IsSomeAnd ran (λ l. stop_count (made_by n l.air.history) ≡ 8)
