-- Which disk is told where one isn't opened: the first in the order of the names.
use Rattle.std.specs.Prelude.{◌≡◌, ◌⊎◌, ℕ, List, [], ◌∷◌, ◌++◌, Bool, IsTrue, Option}
use Rattle.site_store.specs.Terms.{DiskName, Each, IsKeptIn, KeepsEpoch, KeepsNotes, KeepsOffset, KeepsPairs, KeepsPending, Keeps, PairRec, ReplicaNote, Topology, values_from}
use Rattle.outside.specs.declared.store.DiskName.TheVariants as name
use Rattle.site_store.specs.Kinds.{joiners_kept}

-- a file under this name is a journal of its kind
abbrev pub IsJournalOf : DiskName → List ℕ → Type 0
IsJournalOf name.Topology bytes = (kept : Option Topology) × Keeps kept bytes
IsJournalOf (name.Offset site) bytes = (offset : ℕ) × KeepsOffset offset bytes
IsJournalOf (name.Retry site) bytes = (pending : List ℕ) × KeepsPending pending bytes
IsJournalOf (name.Server site) bytes = (epoch : ℕ) × KeepsEpoch epoch bytes
IsJournalOf (name.Replica replica) bytes = (notes : List ReplicaNote) × KeepsNotes notes bytes
IsJournalOf (name.Epoch site joiner) bytes = (epoch : ℕ) × KeepsEpoch epoch bytes
IsJournalOf (name.Output site joiner) bytes = (pairs : List PairRec) × KeepsPairs pairs bytes

-- what might have been left of each of these disks before may be a journal of its kind
abbrev pub WereJournals : (DiskName → List ℕ → Type 0) → List DiskName → Type 0
WereJournals before names = Each (λ name. IsKeptIn (before name) (IsJournalOf name)) names

-- The name is one of these. Each disk in front of it was a journal of its kind, where disks tell what they hold.
pub record IsFirst (tells : Bool) (before : DiskName → List ℕ → Type 0) (names : List DiskName) (name : DiskName) : Type 0 where
  pub front : List DiskName
  pub rest : List DiskName
  pub order : names ≡ front ++ name ∷ rest
  pub opened : IsTrue tells → WereJournals before front

-- the names of the two sites' disks in the order in which they are opened
abbrev pub site_names : List DiskName
site_names = name.Offset 0 ∷ name.Offset 1 ∷ name.Retry 0 ∷ name.Retry 1 ∷ name.Server 0 ∷ name.Server 1 ∷ []

-- and of all disks but the topology's, which is opened first: behind the sites' those of the replicas, and of each site's joiners
abbrev pub other_names : (joiners replicas : ℕ) → List DiskName
other_names joiners replicas =
    site_names ++ values_from (λ r. name.Replica r) 0 replicas
    ++ values_from (λ j. name.Epoch 0 j) 0 joiners ++ values_from (λ j. name.Epoch 1 j) 0 joiners
    ++ values_from (λ j. name.Output 0 j) 0 joiners ++ values_from (λ j. name.Output 1 j) 0 joiners

-- The disk is the topology's. Or this may have kept a topology or none, with its number of joiners or the asked one, and the disk is
-- the first of the others that wasn't opened.
abbrev pub IsFirstDisk : Bool → (DiskName → List ℕ → Type 0) → (replicas asked : ℕ) → DiskName → Type 0
IsFirstDisk tells before replicas asked disk =
    (disk ≡ name.Topology)
    ⊎ ((kept : Option Topology) × (IsTrue tells → IsKeptIn (before name.Topology) (Keeps kept)) × IsFirst tells before (other_names (joiners_kept kept asked) replicas) disk)
