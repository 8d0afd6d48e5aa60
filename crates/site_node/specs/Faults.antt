-- Why a turn isn't done, and why a node isn't up again.
use Rattle.std.specs.Prelude.{◌≡◌, ℕ, ◌+◌, Bool, true, false, Result, Ok, Err, ⊤}
use Rattle.gate_journal.specs.declared.reading.JournalFault.{JournalFault}
use Rattle.gate_journal.specs.declared.reading.JournalFault.TheVariants as journal
use Rattle.outside.specs.Faults.{Rose}
use Rattle.outside.specs.Plans.{AtMost}
use Rattle.site_node.specs.declared.kind.NodeDisk.{NodeDisk}
use Rattle.site_node.specs.declared.kind.NodeDisk.TheVariants.{First, Second}
use Rattle.site_node.specs.declared.kind.NodeFault.{NodeFault}
use Rattle.site_node.specs.declared.kind.NodeFault.TheVariants.{Stopped, Disk, Damaged, Read, Spent, Memory}

-- the turn was stopped
abbrev pub was_stopped : {T : Type 0} → Result T NodeFault → Bool
was_stopped (Ok x) = false
was_stopped (Err Stopped) = true
was_stopped (Err _) = false

-- a disk couldn't be opened again
abbrev pub was_shut_out : {T : Type 0} → Result T NodeFault → Bool
was_shut_out (Ok x) = false
was_shut_out (Err (Disk disk)) = true
was_shut_out (Err _) = false

-- the log couldn't be read
abbrev pub is_read_fault : {T : Type 0} → Result T NodeFault → Bool
is_read_fault (Ok x) = false
is_read_fault (Err Read) = true
is_read_fault (Err _) = false

-- A call where at most so many of the calls to come are planned to fail, by old before it and by new after it: where it met
-- such a stop there is one less to come, and else there was no fault.
abbrev pub MeetsStops : (met : Bool) → (old new : ℕ → Type 0) → (before after : ℕ) → Type 0
MeetsStops true old new before after = (k : ℕ) → old k → (left : ℕ) × (k ≡ left + 1) × new left
MeetsStops false old new before after = ((k : ℕ) → old k → new k) × (after ≡ before)

-- of a node's two disks, the one's or the other's
abbrev pub of_two : {A : Type 0} → A → A → NodeDisk → A
of_two first second First = first
of_two first second Second = second

-- where it names a disk, the count of that disk's faults rose
abbrev pub HasFailed : (before after : NodeDisk → ℕ) → NodeFault → Type 0
HasFailed before after (Disk disk) = Rose (before disk) (after disk)
HasFailed before after _ = ⊤

-- two disks of which each has its own, and the same of both
abbrev pub OfBoth : (first second : ℕ → Type 0) → ℕ → Type 0
OfBoth first second k = (i : ℕ) × (j : ℕ) × first i × second j × (k ≡ i + j)

abbrev pub MeetsBoth : {D : Type 0} (stops : D → ℕ → Bool) (made faults : D → ℕ) (met : Bool) (first second new_first new_second : D) → Type 0
MeetsBoth stops made faults met first second new_first new_second = MeetsStops met (OfBoth (AtMost (stops first) (made first)) (AtMost (stops second) (made second)))
    (OfBoth (AtMost (stops new_first) (made new_first)) (AtMost (stops new_second) (made new_second))) (faults first + faults second) (faults new_first + faults new_second)

-- a turn opens no disk again, and never finds one damaged
abbrev pub IsOfTurn : NodeFault → Type 0
IsOfTurn (Disk disk) = ⊥
IsOfTurn (Damaged disk at) = ⊥
IsOfTurn _ = Unit {0}

-- a log couldn't be read, or there was no memory
abbrev pub IsReadFault : NodeFault → Type 0
IsReadFault Read = ⊤
IsReadFault Memory = ⊤
IsReadFault _ = ⊥

-- a restart isn't stopped itself, reads no log and raises no epoch
abbrev pub IsOfRestart : NodeFault → Type 0
IsOfRestart Stopped = ⊥
IsOfRestart Read = ⊥
IsOfRestart (Spent epoch) = ⊥
IsOfRestart _ = Unit {0}

abbrev pub refused_as : NodeFault → Result ⊤ NodeFault
refused_as e = Err e

-- what a node tells of a journal of this disk that isn't opened
abbrev pub fault_told : NodeDisk → JournalFault → NodeFault
fault_told disk (journal.Damaged at) = Damaged disk at
fault_told disk journal.Disk = Disk disk
fault_told disk journal.Memory = Memory

-- the journal wasn't found damaged
abbrev pub IsUndamaged : JournalFault → Type 0
IsUndamaged (journal.Damaged at) = ⊥
IsUndamaged _ = ⊤

-- no disk was found damaged
abbrev pub IsWhole : NodeFault → Type 0
IsWhole (Damaged disk at) = ⊥
IsWhole _ = Unit {0}
