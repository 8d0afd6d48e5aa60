-- What a stop may leave of the disks of a store, and when that is sound.
use Rattle.std.specs.Prelude.{◌≡◌, ◌≢◌, ◌⊎◌, ℕ, ◌+◌, ◌*◌, ◌<◌, true, List, [], Option, None, Some, IfSome, option_map, ⊤}
use Rattle.site_laws.specs.Terms.{DiskName, Disks, Dispatcher, Each, IsKeptIn, IsNode, IsVoted, Joiner, KeepsEpoch, KeepsPairs, MayHold, Node, OnDisk, Replica, ReplicaKept, Server, Setting, Store, Topology, WholeSound, first_joiner, topology_of}
use Rattle.outside.specs.declared.store.DiskName.TheVariants as name
use Rattle.gate_journal.specs.Gate as gate
use Rattle.topology_journal.specs.Topologies as journal
use Rattle.offset_journal.specs.Offsets.{Keeps as KeepsOffset}
use Rattle.retry_log.specs.Pending.{Keeps as KeepsPending}
use Rattle.site_laws.specs.Kinds.{KeptOf, StateOf, rows_of, kept_of}

-- ---- the disks of a setting

-- bytes for each disk
abbrev pub Bytes : Type 0
Bytes = DiskName → List ℕ

-- which bytes a stop now may leave of each disk
abbrev pub Images : Type 1
Images = DiskName → List ℕ → Type 0

-- the setting has a disk of this name
abbrev pub IsDisk : Setting → DiskName → Type 0
IsDisk g name.Topology = ⊤
IsDisk g (name.Offset s) = s < 2
IsDisk g (name.Retry s) = s < 2
IsDisk g (name.Server s) = s < 2
IsDisk g (name.Replica r) = r < g.config.replicas
IsDisk g (name.Epoch s j) = (s < 2) × (j < g.config.joiners)
IsDisk g (name.Output s j) = (s < 2) × (j < g.config.joiners)

-- the node number of a site's joiner
abbrev pub joiner_of : Setting → ℕ → ℕ → ℕ
joiner_of g s j = first_joiner g + s * g.config.joiners + j

-- one image of each disk of the setting
abbrev pub IsChoice : Setting → Images → Bytes → Type 0
IsChoice g image b = (disk : DiskName) → IsDisk g disk → image disk (b disk)

-- these bytes are all that a stop may leave of each
abbrev pub AreAllLeft : Setting → Images → Bytes → Type 0
AreAllLeft g image b = (disk : DiskName) → IsDisk g disk → (c : List ℕ) → image disk c → c ≡ b disk

-- ---- what bytes keep

-- the bytes keep the topology, or none
abbrev pub KeepsTopology : Option Topology → List ℕ → Type 0
KeepsTopology kept bytes = journal.Keeps (option_map (λ (t : Topology). journal.topology_of t.joiners t.table) kept) bytes

-- the bytes keep a replica's notes, each of which has a spelling
abbrev pub KeepsVotes : ReplicaKept → List ℕ → Type 0
KeepsVotes k bytes = Each IsVoted k.notes × OnDisk k bytes

-- the node whose disk it is; the topology's is none's
abbrev pub node_with : Setting → DiskName → Option Node
node_with g name.Topology = None
node_with g (name.Offset s) = Some (Dispatcher s)
node_with g (name.Retry s) = Some (Dispatcher s)
node_with g (name.Server s) = Some (Server s)
node_with g (name.Replica r) = Some (Replica r)
node_with g (name.Epoch s j) = Some (Joiner (joiner_of g s j))
node_with g (name.Output s j) = Some (Joiner (joiner_of g s j))

-- the disk of this name is one of that node's, and its bytes keep what these records of the node say
abbrev pub KeepsFor : (n : Node) → KeptOf n → DiskName → List ℕ → Type 0
KeepsFor (Dispatcher s) k (name.Offset t) bytes = KeepsOffset k.offset bytes
KeepsFor (Dispatcher s) k (name.Retry t) bytes = KeepsPending k.pending bytes
KeepsFor (Server s) k (name.Server t) bytes = KeepsEpoch k.epoch bytes
KeepsFor (Replica r) k (name.Replica t) bytes = KeepsVotes k bytes
KeepsFor (Joiner n) k (name.Epoch s j) bytes = KeepsEpoch k.epoch bytes
KeepsFor (Joiner n) k (name.Output s j) bytes = KeepsPairs k.pairs bytes
KeepsFor _ k _ bytes = ⊥

-- the bytes of the disk of this name keep what the records say of it; of the topology they say nothing
abbrev pub KeepsOf : Setting → Disks → DiskName → List ℕ → Type 0
KeepsOf g d disk bytes = IfSome (node_with g disk) (λ n. KeepsFor n (kept_of d n) disk bytes)

-- the bytes of each disk keep its records
abbrev pub HoldsRecords : Setting → Bytes → Disks → Type 0
HoldsRecords g b d = (disk : DiskName) → IsDisk g disk → KeepsOf g d disk (b disk)

-- The bytes keep the store, which is used where any disk but the topology's has a record.
pub record Holds (g : Setting) (b : Bytes) (s : Store) : Type 0 where
  pub topology : KeepsTopology s.topology (b name.Topology)
  pub records : HoldsRecords g b s.disks
  pub used : (disk : DiskName) → IsDisk g disk → disk ≢ name.Topology → gate.records (b disk) ≢ [] → s.is_used ≡ true

-- ---- sound stores

-- no other topology is kept than the setting's
abbrev pub IsFit : Setting → Store → Type 0
IsFit g s = (t : Topology) → s.topology ≡ Some t → t ≡ topology_of g

-- the bytes keep a sound store, the topology's record the first, and that of the setting
abbrev pub KeepSound : Setting → Bytes → Type 0
KeepSound g b = (s : Store) × Holds g b s × WholeSound g s × IsFit g s

-- and so do whatever bytes a stop now leaves of the disks
abbrev pub IsSoundStore : Setting → Images → Type 0
IsSoundStore g image = (b : Bytes) → IsChoice g image b → KeepSound g b

-- or one of either setting, each
abbrev pub IsSoundOr : Setting → Setting → Images → Type 0
IsSoundOr g h image = (b : Bytes) → IsChoice g image b → KeepSound g b ⊎ KeepSound h b

-- Each record of the store is kept by an image of its disk.
pub record AreLeft (g : Setting) (image : Images) (s : Store) : Type 0 where
  pub topology : IsKeptIn (image name.Topology) (KeepsTopology s.topology)
  pub records : (disk : DiskName) → IsDisk g disk → IsKeptIn (image disk) (KeepsOf g s.disks disk)

-- the same records of each node of the setting
abbrev pub SameRecords : Setting → Disks → Disks → Type 0
SameRecords g d e = (n : Node) → IsNode g n → kept_of d n ≡ kept_of e n

-- Whatever a stop now leaves of a node's disks keeps records that the node's state may hold, and of the topology's disk the
-- setting's.
pub record AreKept (g : Setting) (at : (n : Node) → StateOf n) (image : Images) : Type 0 where
  pub topology : (c : List ℕ) → image name.Topology c → KeepsTopology (Some (topology_of g)) c
  pub nodes : (n : Node) → IsNode g n → (b : Bytes) → ((disk : DiskName) → IsDisk g disk → node_with g disk ≡ Some n → image disk (b disk))
      → (k : KeptOf n) × (MayHold (rows_of n) (at n) k × ((disk : DiskName) → IsDisk g disk → node_with g disk ≡ Some n → KeepsFor n k disk (b disk)))
