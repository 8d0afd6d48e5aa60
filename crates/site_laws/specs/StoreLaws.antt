-- What keeps a store sound.
use Rattle.std.specs.Prelude.{◌≡◌, ◌≢◌, ◌⊎◌, ℕ, Bool, List, [], Option, Some, option_map}
use Rattle.site_laws.specs.Terms.{BusEntry, Checked, DiskName, Disks, Entry, IsFree, IsLonger, IsOpened, KeepsNotes, KeptTopology, Node, ReplicaNote, Setting, ShardRow, StaysAs, Store, Topology, WholeSound, notes_kept, records, topology_of, with_row}
use Rattle.outside.specs.declared.store.DiskName.TheVariants as name
use Rattle.topology_journal.specs.Topologies as journal
use Rattle.photon_model.specs.Sound.{SoundStore}
use Rattle.site_laws.specs.Kinds.{StateOf}
use Rattle.site_laws.specs.Laws.{IsRunOf, MayLeave}
use Rattle.site_laws.specs.Stores.{Bytes, Images, IsDisk, IsChoice, KeepsTopology, KeepsVotes, KeepsOf, HoldsRecords, IsFit, KeepSound, IsSoundStore, AreLeft, SameRecords, AreKept}

-- ---- bytes keep one store

abbrev pub KeepOneTopology : Type 0
KeepOneTopology = (t u : Option Topology) (bytes : List ℕ) → KeepsTopology t bytes → KeepsTopology u bytes → t ≡ u

abbrev pub HoldSameRecords : Type 0
HoldSameRecords = (g : Setting) (b : Bytes) (d e : Disks) → HoldsRecords g b d → HoldsRecords g b e → SameRecords g d e

-- ---- what was read of a disk

-- a topology as its journal reads it
abbrev pub topology_read : Option KeptTopology → Option Topology
topology_read kept = option_map (λ (t : KeptTopology). record { joiners = t.joiners; table = t.table }) kept

abbrev pub ReadTopologyIsKept : Type 0
ReadTopologyIsKept = (kept : Option KeptTopology) (bytes : List ℕ) → journal.Keeps kept bytes → KeepsTopology (topology_read kept) bytes

abbrev pub ReadNotesAreKept : Type 0
ReadNotesAreKept = (notes : List ReplicaNote) (bytes : List ℕ) → KeepsNotes notes bytes → KeepsVotes (notes_kept notes) bytes

-- ---- sound records

-- whether records are sound is told by those of the setting's nodes alone
abbrev pub SameIsSound : Type 0
SameIsSound = (g : Setting) (d e : Disks) → SameRecords g d e → SoundStore g d → SoundStore g e

abbrev pub SameIsWhole : Type 0
SameIsWhole = (g : Setting) (s t : Store) → s.topology ≡ t.topology → s.is_used ≡ t.is_used → SameRecords g s.disks t.disks → WholeSound g s → WholeSound g t

-- ---- the topology of a sound store

-- where a disk but the topology's has a record, the topology's disk keeps the setting's
abbrev pub TopologyIsFirst : Type 0
TopologyIsFirst = (g : Setting) (b : Bytes) (disk : DiskName) → KeepSound g b → IsDisk g disk → disk ≢ name.Topology → records (b disk) ≢ [] → KeepsTopology (Some (topology_of g)) (b name.Topology)

-- and it never keeps another
abbrev pub TopologyFits : Type 0
TopologyFits = (g : Setting) (b : Bytes) (t : Topology) → KeepSound g b → KeepsTopology (Some t) (b name.Topology) → t ≡ topology_of g

-- ---- what keeps a store sound, of the images of two stores

-- a stop leaves no bytes of any disk
abbrev pub LeavesNothing : Setting → Images → Type 0
LeavesNothing g image = (disk : DiskName) → IsDisk g disk → (c : List ℕ) → image disk c → c ≡ []

-- records that are read from a sound store, each from what a stop may leave of its disk, are a sound store
abbrev pub OpenedIsWhole : Setting → Images → Type 0
OpenedIsWhole g image = (s : Store) → IsSoundStore g image → AreLeft g image s → (used : Bool) × WholeSound g (record s { is_used = used }) × IsFit g s

-- where no disk stands for anything new, the store stays sound
abbrev pub StaysSound : Setting → Images → Images → Type 0
StaysSound g before after = IsSoundStore g before → ((disk : DiskName) → IsDisk g disk → StaysAs (before disk) (after disk)) → IsSoundStore g after

-- each disk but the topology's stands for nothing new
abbrev pub OthersStay : Setting → Images → Images → Type 0
OthersStay g before after = (disk : DiskName) → IsDisk g disk → disk ≢ name.Topology → StaysAs (before disk) (after disk)

-- Then the topology's stands for nothing new but the setting's record. A stop might have left something of that disk before.
pub record IsTopologyWritten (g : Setting) (before after : Images) : Type 0 where
  pub was : (c : List ℕ) × before name.Topology c
  pub topology : (c : List ℕ) → after name.Topology c → IsOpened (before name.Topology) c ⊎ KeepsTopology (Some (topology_of g)) c
  pub others : OthersStay g before after

-- then the store stays sound too
abbrev pub WrittenIsSound : Setting → Images → Images → Type 0
WrittenIsSound g before after = IsSoundStore g before → IsTopologyWritten g before after → IsSoundStore g after

-- Or whatever a stop leaves of the setting's disks keeps these records, of which nothing that a replica accepted forbids the row's
-- start. A stop might have left something of the topology's disk before.
pub record IsRowAdded (g : Setting) (row : ShardRow) (before after : Images) : Type 0 where
  pub was : (c : List ℕ) × before name.Topology c
  pub others : OthersStay g before after
  pub records : Disks
  pub keep : (disk : DiskName) → IsDisk g disk → (c : List ℕ) → after disk c → KeepsOf g records disk c
  pub free : IsFree g records row.start

-- then what is left is sound for the setting where the topology's disk stands for nothing new, and for the setting with the row where it
-- keeps that
abbrev pub RowIsSound : Setting → Images → Images → Type 0
RowIsSound g before after =
    (row : ShardRow) (b : Bytes) → IsSoundStore g before → IsRowAdded g row before after → IsChoice g after b →
    (IsOpened (before name.Topology) (b name.Topology) → KeepSound g b) × (KeepsTopology (Some (topology_of (with_row g row))) (b name.Topology) → KeepSound (with_row g row) b)

-- where both logs grow by bytes at their ends and stay valid, the store stays sound
abbrev pub LongerStaysSound : Images → Type 0
LongerStaysSound image =
    (g h : Setting) (query_log click_log more_queries more_clicks : List ℕ) →
    IsLonger g h query_log click_log more_queries more_clicks → IsSoundStore g image → IsSoundStore h image

-- ---- what a run leaves

-- after a run from a sound store with its topology, disks that keep what their nodes' states may hold are a sound store
abbrev pub RunStaysSound : Setting → Images → Type 0
RunStaysSound g image =
    (s : Store) (h : List BusEntry) (at : (n : Node) → StateOf n) (es : List Entry) →
    Checked g → WholeSound g s → s.topology ≡ Some (topology_of g) → IsRunOf g s.disks h at es → AreKept g at image → IsSoundStore g image

-- and whatever bytes a stop leaves of them keep records that the nodes may leave
abbrev pub LeftIsHeld : Setting → Images → Type 0
LeftIsHeld g image = (d : Disks) (at : (n : Node) → StateOf n) (b : Bytes) → AreKept g at image → IsChoice g image b → (left : Disks) × MayLeave g d at left × HoldsRecords g b left
