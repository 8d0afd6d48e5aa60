-- What the disks of a store keep, each under its name, and the records of a setting's nodes.
use Rattle.std.specs.Prelude.{◌≡◌, ℕ, List, map, Bool, IsTrue, Option, ⊤}
use Rattle.site_store.specs.Terms.{DiskName, Disks, Each, IsKeptIn, KeepsEpoch, KeepsNotes, KeepsOffset, KeepsPairs, KeepsPending, Keeps, PairRec, ReplicaNote, Setting, Topology, joiner_of, kept_of}
use Rattle.outside.specs.declared.store.DiskName.TheVariants as name
use Rattle.site_store.specs.Kinds.{joiners_kept}
use Rattle.site_store.specs.Refusals.{other_names}
use Rattle.site_store.specs.Lent.{Lent}

-- what a journal keeps, by its kind
pub data Kept : Type 0 where
  TopologyIs : Option Topology → Kept
  OffsetIs : ℕ → Kept
  PendingAre : List ℕ → Kept
  EpochIs : ℕ → Kept
  NotesAre : List ReplicaNote → Kept
  PairsAre : List PairRec → Kept

-- the bytes of a file keep this
abbrev pub KeepsAs : Kept → List ℕ → Type 0
KeepsAs (TopologyIs topology) bytes = Keeps topology bytes
KeepsAs (OffsetIs offset) bytes = KeepsOffset offset bytes
KeepsAs (PendingAre positions) bytes = KeepsPending positions bytes
KeepsAs (EpochIs epoch) bytes = KeepsEpoch epoch bytes
KeepsAs (NotesAre notes) bytes = KeepsNotes notes bytes
KeepsAs (PairsAre pairs) bytes = KeepsPairs pairs bytes

-- the disk of this name keeps records of this kind
abbrev pub IsOfKind : DiskName → Kept → Type 0
IsOfKind name.Topology kept = (topology : Option Topology) × (kept ≡ TopologyIs topology)
IsOfKind (name.Offset site) kept = (offset : ℕ) × (kept ≡ OffsetIs offset)
IsOfKind (name.Retry site) kept = (positions : List ℕ) × (kept ≡ PendingAre positions)
IsOfKind (name.Server site) kept = (epoch : ℕ) × (kept ≡ EpochIs epoch)
IsOfKind (name.Replica replica) kept = (notes : List ReplicaNote) × (kept ≡ NotesAre notes)
IsOfKind (name.Epoch site joiner) kept = (epoch : ℕ) × (kept ≡ EpochIs epoch)
IsOfKind (name.Output site joiner) kept = (pairs : List PairRec) × (kept ≡ PairsAre pairs)

-- the disk of a name, and what it keeps
pub record KeptDisk : Type 0 where
  pub name : DiskName
  pub kept : Kept

-- the same with the disk itself, which is open
pub record OpenView (D : Type 0) : Type 0 where
  pub name : DiskName
  pub disk : D
  pub kept : Kept

abbrev pub kept_by : {D : Type 0} → OpenView D → KeptDisk
kept_by o = record { name = o.name; kept = o.kept }

abbrev pub lent_by : {D : Type 0} → OpenView D → Lent D
lent_by o = record { name = o.name; disk = o.disk }

abbrev pub kept_all : {D : Type 0} → List (OpenView D) → List KeptDisk
kept_all disks = map kept_by disks

abbrev pub lent_all : {D : Type 0} → List (OpenView D) → List (Lent D)
lent_all disks = map lent_by disks

-- the disk of the topology
abbrev pub topology_lent : {D : Type 0} → D → Lent D
topology_lent disk = record { name = name.Topology; disk = disk }

-- what the disks of a store keep: that of the topology, and the others in the order of their names
pub record KeptValues : Type 0 where
  pub topology : Option Topology
  pub disks : List KeptDisk

abbrev pub values_of : {D : Type 0} → Option Topology → List (OpenView D) → KeptValues
values_of topology disks = record { topology = topology; disks = kept_all disks }

-- each of an open disk's images keeps what its journal does
abbrev pub AllKept : {D : Type 0} → (D → List ℕ → Type 0) → OpenView D → Type 0
AllKept left o = (c : List ℕ) → left o.disk c → KeepsAs o.kept c

-- one of the disk's images keeps what it is said to keep
abbrev pub IsKept : (DiskName → List ℕ → Type 0) → KeptDisk → Type 0
IsKept before d = IsKeptIn (before d.name) (KeepsAs d.kept)

-- The disks keep these values, with so many replicas, and as many joiners as are kept, or else as are asked for: each disk records of
-- its kind, which one of its images has.
pub record AreKept (tells : Bool) (before : DiskName → List ℕ → Type 0) (replicas asked : ℕ) (k : KeptValues) : Type 0 where
  pub topology : IsTrue tells → IsKeptIn (before name.Topology) (Keeps k.topology)
  pub named : map (λ d. d.name) k.disks ≡ other_names (joiners_kept k.topology asked) replicas
  pub kinds : Each (λ d. IsOfKind d.name d.kept) k.disks
  pub kept : IsTrue tells → Each (IsKept before) k.disks

-- the records of the setting's nodes say this of the disk of a name; of the topology they say nothing
abbrev pub Says : Setting → Disks → DiskName → Kept → Type 0
Says g d name.Topology kept = ⊤
Says g d (name.Offset s) kept = kept ≡ OffsetIs (d.dispatchers s).offset
Says g d (name.Retry s) kept = kept ≡ PendingAre (d.dispatchers s).pending
Says g d (name.Server s) kept = kept ≡ EpochIs (d.servers s).epoch
Says g d (name.Replica r) kept = (notes : List ReplicaNote) × (kept ≡ NotesAre notes) × (d.replicas r ≡ kept_of notes)
Says g d (name.Epoch s j) kept = kept ≡ EpochIs (d.joiners (joiner_of g s j)).epoch
Says g d (name.Output s j) kept = kept ≡ PairsAre (d.joiners (joiner_of g s j)).pairs

-- the records of the setting's nodes are what these disks keep
abbrev pub AreRecordsOf : Setting → List KeptDisk → Disks → Type 0
AreRecordsOf g disks d = Each (λ o. Says g d o.name o.kept) disks
