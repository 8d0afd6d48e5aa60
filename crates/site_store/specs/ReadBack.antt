-- What reading disks back gives.
use Rattle.std.specs.Prelude.{◌≡◌, ◌≢◌, ◌≤◌, ◌⊎◌, ⊤, ℕ, List, [], ◌∷◌, ◌||◌, Bool, true, false, filter, IsTrue}
use Rattle.site_store.specs.Terms.{DiskName, Each, IsOfDisk, KeepsNotes, KeepsPairs, PairRec, ReplicaNote, Rose, RunFault, Throughout}
use Rattle.outside.specs.declared.store.DiskName.TheVariants as name
use Rattle.site_store.specs.Kinds.{damaged_by}
use Rattle.site_store.specs.declared.lent.disk.LentDisk.{LentDisk}
use Rattle.site_store.specs.declared.lent.reading.ReadAs.{ReadAs}
use Rattle.site_store.specs.declared.lent.reading.ReadAs.TheVariants.{Notes, Pairs, Neither}

-- R holds of each element and the one at its place in the other list, which is as long
abbrev pub EachWith : {A B : Type 0} → (A → B → Type 0) → List A → List B → Type 0
EachWith R [] [] = ⊤
EachWith R [] (y ∷ ys) = ⊥
EachWith R (x ∷ xs) [] = ⊥
EachWith R (x ∷ xs) (y ∷ ys) = R x y × EachWith R xs ys

-- R holds of an element and the one at its place in the other list
abbrev pub OneWith : {A B : Type 0} → (A → B → Type 0) → List A → List B → Type 0
OneWith R [] ys = ⊥
OneWith R (x ∷ xs) [] = ⊥
OneWith R (x ∷ xs) (y ∷ ys) = R x y ⊎ OneWith R xs ys

-- whether a disk of this name is a replica's, and whether it is an output
abbrev pub is_replica : DiskName → Bool
is_replica (name.Replica replica) = true
is_replica other = false

abbrev pub is_output : DiskName → Bool
is_output (name.Output site joiner) = true
is_output other = false

-- whether a disk of this name is read back
abbrev pub is_read : DiskName → Bool
is_read disk = is_replica disk || is_output disk

-- those disks among these
abbrev pub replicas : {D : Type 0} → List (LentDisk D) → List (LentDisk D)
replicas disks = filter (λ d. is_replica d.name) disks

abbrev pub outputs : {D : Type 0} → List (LentDisk D) → List (LentDisk D)
outputs disks = filter (λ d. is_output d.name) disks

-- One list for each of these disks, in order. Where the disk tells, its bytes as they read keep that list.
abbrev pub AreReadFrom : {D V : Type 0} → Bool → (D → List ℕ) → (List V → List ℕ → Type 0) → List (LentDisk D) → List (List V) → Type 0
AreReadFrom tells seen keeps disks lists = EachWith (λ d items. IsTrue tells → keeps items (seen d.disk)) disks lists

-- each of these disks as it reads is one of the images that a stop may leave of it
abbrev pub AreAmongImages : {D : Type 0} → Bool → (D → List ℕ) → (D → List ℕ → Type 0) → List (LentDisk D) → Type 0
AreAmongImages tells seen image disks = Each (λ d. IsTrue tells → image d.disk (seen d.disk)) disks

-- A disk that was read at most: it has its name and its bytes, and no moment left anything else than might have been left. One that
-- keeps to its plan and is up, unless it is the topology's, which isn't read, met no fault.
pub record IsOnlyRead {D : Type 0} (tells : Bool) (seen : D → List ℕ) (image : D → List ℕ → Type 0) (since : D → D → List ℕ → Type 0) (faults : D → ℕ) (planned : Bool) (is_down : D → Bool) (old new : LentDisk D) : Type 0 where
  pub named : new.name ≡ old.name
  pub reads : IsTrue tells → seen new.disk ≡ seen old.disk
  pub moments : IsTrue tells → Throughout image since old.disk new.disk (image old.disk)
  pub count : faults old.disk ≤ faults new.disk
  pub calm : IsTrue planned → (old.name ≢ name.Topology → is_down old.disk ≡ false) → faults new.disk ≡ faults old.disk

-- A fault is of this disk: it is read, and its count rose, and not where it keeps to its plan and is up, or a stop might have left bytes of it that are damaged as
-- its kind reads them. Want of memory is free.
abbrev pub IsToldBy : {D : Type 0} → Bool → (D → List ℕ → Type 0) → (D → ℕ) → Bool → (D → Bool) → (old new : LentDisk D) → RunFault → Type 0
IsToldBy tells image faults planned is_down old new f =
    IsOfDisk (λ disk. (old.name ≡ disk) × (is_read disk ≡ true) × Rose (faults old.disk) (faults new.disk) × (IsTrue planned → (old.name ≢ name.Topology → is_down old.disk ≡ false) → ⊥))
    (λ disk at. (old.name ≡ disk) × (IsTrue tells → (c : List ℕ) × image old.disk c × damaged_by disk c at)) f

-- what one disk is read as, by its name
abbrev pub IsReadAs : {D : Type 0} → Bool → (D → List ℕ) → LentDisk D → ReadAs → Type 0
IsReadAs tells seen d (Notes notes) = (is_replica d.name ≡ true) × (is_output d.name ≡ false) × (IsTrue tells → KeepsNotes notes (seen d.disk))
IsReadAs tells seen d (Pairs pairs) = (is_replica d.name ≡ false) × (is_output d.name ≡ true) × (IsTrue tells → KeepsPairs pairs (seen d.disk))
IsReadAs tells seen d Neither = (is_replica d.name ≡ false) × (is_output d.name ≡ false)

-- what was read, if anything was, is one of the images of the disk
abbrev pub IsAnImage : {D : Type 0} → Bool → (D → List ℕ) → (D → List ℕ → Type 0) → LentDisk D → ReadAs → Type 0
IsAnImage tells seen image d Neither = Unit {0}
IsAnImage tells seen image d _ = IsTrue tells → image d.disk (seen d.disk)

-- the list of notes that was read, if one was, and the list of pairs
abbrev pub notes_in : ReadAs → List (List ReplicaNote)
notes_in (Notes notes) = notes ∷ []
notes_in _ = []

abbrev pub pairs_in : ReadAs → List (List PairRec)
pairs_in (Pairs pairs) = pairs ∷ []
pairs_in _ = []
