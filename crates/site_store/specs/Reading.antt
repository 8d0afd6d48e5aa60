-- What a store is read as.
use Rattle.std.specs.Prelude.{◌≡◌, ℕ, List, [], ◌∷◌, flat_map, Bool, None}
use Rattle.site_store.specs.Terms.{DiskName, PairRec, ReplicaNote}
use Rattle.site_store.specs.Records.{Kept, NotesAre, PairsAre, KeptValues, AreKept}
use Rattle.site_store.specs.Causes.{ArePassed}
use Rattle.site_store.specs.declared.reading.kept.KeptStore.{KeptStore}

-- the notes that a disk keeps, and the pairs
abbrev pub notes_at : Kept → List (List ReplicaNote)
notes_at (NotesAre notes) = notes ∷ []
notes_at _ = []

abbrev pub pairs_at : Kept → List (List PairRec)
pairs_at (PairsAre pairs) = pairs ∷ []
pairs_at _ = []

-- the topology, and all disks' notes and pairs, in order
pub record IsOfValues (v : KeptValues) (k : KeptStore) : Type 0 where
  pub topology : v.topology ≡ k.topology
  pub notes : k.journals.notes.items ≡ flat_map (λ d. notes_at d.kept) v.disks
  pub pairs : k.journals.pairs.items ≡ flat_map (λ d. pairs_at d.kept) v.disks

-- A store is read as what its disks keep, with as many joiners as its topology has, or none where it keeps none. That fits the log.
pub record IsRead (tells : Bool) (before : DiskName → List ℕ → Type 0) (replicas : ℕ) (log_tells : Bool) (log : List ℕ) (end_ : ℕ) (k : KeptStore) : Type 0 where
  pub values : KeptValues
  pub kept : AreKept tells before replicas 0 values
  pub told : IsOfValues values k
  pub fine : ArePassed log_tells log end_ None values
