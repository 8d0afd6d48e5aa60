-- What the topology's disk may hold once it was written to.
use Rattle.std.specs.Prelude.{◌≡◌, ◌⊎◌, ℕ, List, [], ◌∷◌, ◌++◌, Some}
use Rattle.outside.specs.declared.store.DiskName.TheVariants as name
use Rattle.site_store.specs.Terms.{IsOfDisk, IsOpened, Keeps, Rose, RunFault, StandsFor, Topology, topology_record}

-- each image keeps this topology
abbrev pub AllKeep : Topology → (List ℕ → Type 0) → Type 0
AllKeep asked image = (c : List ℕ) → image c → Keeps (Some asked) c

-- each image stands for what one of the images before stood for, or keeps this topology
abbrev pub StaysOrKeeps : (List ℕ → Type 0) → Topology → (List ℕ → Type 0) → Type 0
StaysOrKeeps old asked new = (c : List ℕ) → new c → IsOpened old c ⊎ Keeps (Some asked) c

-- These bytes keep the topology. Its record stands behind those that one of the images before stood for.
pub record IsWritten (before : List ℕ → Type 0) (t : Topology) (c : List ℕ) : Type 0 where
  pub from : List ℕ
  pub was : before from
  pub records : List (List ℕ)
  pub stood : StandsFor records from
  pub stands : StandsFor (records ++ topology_record t ∷ []) c
  pub keeps : Keeps (Some t) c

-- the topology's record isn't written for want of memory, or because its disk failed
abbrev pub IsUnwritten : (old new : ℕ) → RunFault → Type 0
IsUnwritten old new f = IsOfDisk (λ disk. (disk ≡ name.Topology) × Rose old new) (λ disk at. ⊥) f
