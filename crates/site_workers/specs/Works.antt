-- What a worker does, by the entries that it adds.
use Rattle.std.specs.Prelude.{◌≡◌, ◌≢◌, ℕ, zero, suc, ◌+◌, ◌≤◌, Bool, true, false, List, [], ◌∷◌, ◌++◌, length, filter, fold, Option, None, Some}
use Rattle.std.specs.List.{list_any}
use mathlib.Core.List.{IsPrefix}
use Rattle.air_bus.specs.declared.entry.Entry.{Entry}
use Rattle.air_bus.specs.declared.entry.Entry.TheVariants.{Begin, Stop}
use Rattle.air_bus.specs.declared.entry.Input.{Input}
use Rattle.air_bus.specs.declared.entry.Phase.{Phase}
use Rattle.air_bus.specs.declared.entry.Phase.TheVariants.{Busy}
use Rattle.air_bus.specs.History.{phase}
use Rattle.bus_seat.specs.Seats.{Sight}
use Rattle.site_node.specs.declared.kind.NodeDisk.{NodeDisk}
use Rattle.site_node.specs.declared.kind.NodeFault.{NodeFault}
use Rattle.site_node.specs.declared.kind.NodeFault.TheVariants.{Stopped, Disk, Damaged, Read, Spent, Memory}

-- the entries lead from one state to another
abbrev pub Path : {S : Type 0} → (S → Entry → S → Type 0) → S → List Entry → S → Type 0
Path leads s [] t = s ≡ t
Path leads s (e ∷ es) t = (u : _) × leads s e u × Path leads u es t

-- in so many steps, each of which goes on from the one before
abbrev pub Reached : {N : Type 0} → (N → N → Type 0) → ℕ → N → N → Type 0
Reached grown zero v w = v ≡ w
Reached grown (suc k) v w = (u : _) × Reached grown k v u × grown u w

-- a disk that wasn't opened again has met a fault, and so has a log that couldn't be read
pub record IsCaused {N : Type 0} (disk_faults : N → NodeDisk → ℕ) (log_faults : N → ℕ) (node : N) (fault : Option NodeFault) : Type 0 where
  pub disk : (disk : NodeDisk) → fault ≡ Some (Disk disk) → 1 ≤ disk_faults node disk
  pub read : fault ≡ Some Read → 1 ≤ log_faults node

-- the node went down within its turn
abbrev pub is_stop : Entry → Bool
is_stop (Stop node landed) = true
is_stop _ = false

-- how many of the entries are such
abbrev pub stop_count : List Entry → ℕ
stop_count entries = length (filter is_stop entries)

-- it begins a turn
abbrev pub is_begin : Entry → Bool
is_begin (Begin node input) = true
is_begin _ = false

-- whether the last of the entries begins a turn
abbrev pub is_in_turn : List Entry → Bool
is_in_turn entries = fold (λ _ e. is_begin e) false entries

-- A node whose entries have a stop has met a fault of its disks. It has at most eight, and eight where its work ended as stopped; where it
-- ended otherwise, and not for want of memory, a turn is open. One whose work goes on waits for no restart.
pub record HasMet {N : Type 0} (faults : N → ℕ) (waits : N → Bool) (node : N) (fault : Option NodeFault) (mine : List Entry) : Type 0 where
  pub up : fault ≡ None → waits node ≡ false
  pub stops : list_any is_stop mine ≡ true → 1 ≤ faults node
  pub most : stop_count mine ≤ 8
  pub ended : fault ≡ Some Stopped → stop_count mine ≡ 8
  pub within : (f : NodeFault) → fault ≡ Some f → f ≢ Stopped → f ≢ Memory → is_in_turn mine ≡ true

-- how many stops a node met in a turn that isn't closed: two where a disk wasn't opened again
abbrev pub open_stops : Option NodeFault → ℕ
open_stops (Some (Disk disk)) = 2
open_stops _ = 0

module _ {N : Type 0} (stops_left : N → ℕ → Type 0) where
  -- the stops that its entries have, those of its open turn, and those planned of calls to come are at most so many
  abbrev pub HasAtMost : ℕ → N → Option NodeFault → List Entry → Type 0
  HasAtMost most node fault mine = (left : ℕ) × stops_left node left × (left + stop_count mine + open_stops fault ≤ most)

  -- From v to w it met planned stops alone; where none is planned it met no fault, and waits for no restart.
  pub record KeepsPlan (faults : N → ℕ) (waits : N → Bool) (v : N) (before : Option NodeFault) (old : List Entry) (w : N) (after : Option NodeFault) (new : List Entry) : Type 0 where
    pub most : (k : ℕ) → HasAtMost k v before old → HasAtMost k w after new
    pub calm : HasAtMost 0 v before old → (faults w ≡ faults v) × (waits w ≡ waits v)

-- what a contract sees of a worker
pub record WorkerView (N : Type 0) : Type 0 where
  pub node : N
  pub seat : Sight
  pub fault : Option NodeFault

-- The seat is node n's, and the node has no open turn.
pub record IsIdle (n : ℕ) (waits : Bool) (s : Sight) : Type 0 where
  pub up : waits ≡ false
  pub closed : phase n s.mine ≢ Busy

module _ {N S : Type 0} (leads : S → Entry → S → Type 0) (phase_of : S → Phase) (stands : N → S → Type 0) (number : N → ℕ) (spends : S → Input → Option ℕ) where
  -- the open turn would raise the epoch, which is the last one
  abbrev pub IsSpent : N → S → ℕ → Type 0
  IsSpent node s epoch = (before : S) × (input : Input) × leads before (Begin (number node) input) s × (spends before input ≡ Some epoch)

  -- The node stands at the state; between two turns its last entry left it there. It was never told as damaged, and as spent only in
  -- a turn that would raise the last epoch.
  pub record StandsAt (node : N) (fault : Option NodeFault) (mine : List Entry) (s : S) : Type 0 where
    pub at : stands node s
    pub phased : fault ≡ None → phase_of s ≡ phase (number node) mine
    pub whole : (disk : NodeDisk) (place : ℕ) → fault ≢ Some (Damaged disk place)
    pub spent : (epoch : ℕ) → fault ≡ Some (Spent epoch) → IsSpent node s epoch

  -- Wherever the node stood, the entries that were added lead on to where it stands.
  abbrev pub LeadsOn : N → Option NodeFault → List Entry → N → Option NodeFault → List Entry → Type 0
  LeadsOn v before old w after new = (s : S) → StandsAt v before old s → (es : List Entry) × (t : S) × (new ≡ old ++ es) × Path leads s es t × StandsAt w after new t

  -- wherever the node stood, its disks went on from where they were, step by step
  abbrev pub GrowsOn : (N → N → Type 0) → N → Option NodeFault → List Entry → N → Type 0
  GrowsOn grown v before old w = (s : S) → StandsAt v before old s → (k : ℕ) × Reached grown k v w

-- the seat is the same, and has seen and made no less
pub record Grew (v w : Sight) : Type 0 where
  pub bus : w.bus ≡ v.bus
  pub number : w.number ≡ v.number
  pub seen : IsPrefix v.seen w.seen
  pub mine : IsPrefix v.mine w.mine
