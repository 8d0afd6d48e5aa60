-- What opening the disks of a store does.
use Rattle.std.specs.Prelude.{ℕ, List, Bool, IsTrue}
use Rattle.site_store.specs.Terms.{DiskName, IsOfDisk, JournalFault, Rose, RunFault}
use Rattle.gate_journal.specs.declared.reading.JournalFault.TheVariants as journal
use Rattle.site_store.specs.Kinds.{damaged_by}
use Rattle.run_fault.specs.declared.fault.StorePlace.TheVariants as place
use Rattle.run_fault.specs.declared.fault.RunFault.TheVariants as fault

-- A file is damaged as its kind reads it. A fault of the disk raised its count. Want of memory is free.
abbrev pub IsRefusedBy : (List ℕ → ℕ → Type 0) → Bool → List ℕ → (old new : ℕ) → JournalFault → Type 0
IsRefusedBy is_damaged tells seen old new (journal.Damaged at) = IsTrue tells → is_damaged seen at
IsRefusedBy is_damaged tells seen old new journal.Disk = Rose old new
IsRefusedBy is_damaged tells seen old new journal.Memory = Unit {0}

-- the fault of a disk whose journal isn't opened
abbrev pub told_by : DiskName → JournalFault → RunFault
told_by name (journal.Damaged at) = fault.Damaged name at
told_by name journal.Disk = fault.Store (place.Disk name)
told_by name journal.Memory = fault.Memory

-- a stop might have left bytes of this disk that are no journal of its kind, for this place
abbrev pub IsDamagedIn : (DiskName → List ℕ → Type 0) → DiskName → ℕ → Type 0
IsDamagedIn before name at = (c : List ℕ) × before name c × damaged_by name c at

-- Of such disks one isn't opened: a fault raised the store's count, or the disk was damaged when it was taken, or memory was wanting.
abbrev pub IsUnopened : Bool → (DiskName → List ℕ → Type 0) → (old new : ℕ) → (DiskName → Type 0) → RunFault → Type 0
IsUnopened tells before old new named f = IsOfDisk (λ disk. named disk × Rose old new) (λ disk at. named disk × (IsTrue tells → IsDamagedIn before disk at)) f
