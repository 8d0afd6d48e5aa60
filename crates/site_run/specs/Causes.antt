-- Why a run gives up.
use Rattle.std.specs.Prelude.{◌≡◌, ℕ, ◌+◌, ◌-◌, nat_lt, if◌then◌else◌, List, Bool, true, IsTrue}
use Rattle.site_run.specs.Terms.{Clicks, Config, DiskName, EpochDisk, First, IsOfDisk, IsOfOne, Lent, LogName, Mem, NodeDisk, NodeFault, OffsetDisk, OutputDisk, Queries, ReplicaDisk, RetryDisk, RunFault, ServerDisk, damaged_by, is_read}
use Rattle.run_fault.specs.declared.fault.StorePlace.TheVariants as place
use Rattle.run_fault.specs.declared.fault.RunFault.TheVariants as fault
use Rattle.site_node.specs.Faults.{of_two}
use Rattle.site_node.specs.declared.kind.NodeFault.TheVariants as node
use Rattle.site_run.specs.Naming.{site_of, joiner_of}

-- ---- what is told of a fault below

-- the log that the node of a number reads, and the name of one of its disks
abbrev pub log_of : ℕ → LogName
log_of number = if nat_lt number 2 then Clicks else Queries

abbrev pub joiner_disk : Config → ℕ → NodeDisk → DiskName
joiner_disk config number disk = of_two (EpochDisk (site_of config number) (joiner_of config number)) (OutputDisk (site_of config number) (joiner_of config number)) disk

abbrev pub disk_of : Config → ℕ → NodeDisk → DiskName
disk_of config number disk =
    if nat_lt number 2 then of_two (OffsetDisk number) (RetryDisk number) disk
    else if nat_lt number 4 then ServerDisk (number - 2)
    else if nat_lt number (4 + config.replicas) then ReplicaDisk (number - 4)
    else joiner_disk config number disk

-- of the node of a number
abbrev pub of_node : Config → ℕ → NodeFault → RunFault
of_node config number node.Stopped = fault.Store (place.Node number)
of_node config number (node.Disk disk) = fault.Store (place.Disk (disk_of config number disk))
of_node config number (node.Damaged disk at) = fault.Damaged (disk_of config number disk) at
of_node config number node.Read = fault.Read (log_of number)
of_node config number (node.Spent epoch) = fault.Limit (disk_of config number First) epoch
of_node config number node.Memory = fault.Memory

-- ---- what is said of a fault

-- one of these disks, which is read back
abbrev pub IsReadBack : {D : Type 0} → List (Lent D) → DiskName → Type 0
IsReadBack {D} lent disk = (is_read disk ≡ true) × (l : Lent D) × Mem l lent × (l.name ≡ disk)

-- A fault of disks that are read back: one failed, and the store's count rose, or what a stop may leave of it is no journal of its kind.
abbrev pub IsOfDisks : {D : Type 0} → Bool → (D → List ℕ → Type 0) → List (Lent D) → Type 0 → RunFault → Type 0
IsOfDisks tells image lent rose f = IsOfDisk (λ disk. IsReadBack lent disk × rose) (λ disk at. IsTrue tells → (c : List ℕ) × IsOfOne image lent disk c × damaged_by disk c at) f
