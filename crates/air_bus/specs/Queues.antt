-- What a queue holds: two heaps of parcels stand for a list of copies in the order of their arrival.
use Rattle.std.specs.Prelude.{◌≡◌, ℕ, ◌+◌, ◌-◌, ◌<◌, ◌≤◌, ◌^◌, List, map, sum_by}
use Rattle.std.specs.BinaryHeap.{heap_items, heap_len, heap_capacity}
use Rattle.std.specs.List.{All}
use Rattle.list_words.specs.Lists.{Each, EachPair}
use Rattle.air_bus.specs.declared.queue.Parcel.{Parcel}
use Rattle.air_bus.specs.declared.queue.Queue.{Queue}
use Rattle.air_bus.specs.Copies.{Copy}

-- the copy that a parcel is once so many were taken
abbrev pub copy_at : ℕ → Parcel → Copy
copy_at taken p = record { delay = p.due - taken; from = p.from; bytes = p.bytes }

-- the heaps hold these parcels, each as often as the list: whatever is counted of each parcel sums to the same
pub record AreTogether (ready late parcels : List Parcel) : Type 0 where
  pub each : (f : Parcel → ℕ) → sum_by f ready + sum_by f late ≡ sum_by f parcels

-- the copies, in the order of their arrival, once so many were taken; the next copy gets the next place
pub record Stands (taken next : ℕ) (ready late : List Parcel) (copies : List Copy) : Type 0 where
  pub parcels : List Parcel
  pub together : AreTogether ready late parcels
  pub ascend : EachPair (λ (a b : Parcel). a.place < b.place) parcels
  pub arrived : Each (λ (p : Parcel). p.place < next) parcels
  pub copies_is : copies ≡ map (copy_at taken) parcels

-- the queue holds these copies, in the order of their arrival
abbrev pub Holds : Queue → List Copy → Type 0
Holds q copies = Stands q.taken q.next (heap_items q.ready) (heap_items q.late) copies

-- the new queue holds what the old one held
abbrev pub HoldsOn : Queue → Queue → Type 0
HoldsOn old new = (copies : List Copy) → Holds old copies → Holds new copies

-- there is room for so many copies more
pub record HasRoom (q : Queue) (n : ℕ) : Type 0 where
  pub ready : heap_len q.ready + heap_len q.late + n ≤ heap_capacity q.ready
  pub late : heap_len q.late + n ≤ heap_capacity q.late
  pub places : q.next + n + 2 ^ 32 ≤ 2 ^ 63

-- no copy outside the heap of those without delay is due
abbrev pub IsSettled : Queue → Type 0
IsSettled q = All (λ (p : Parcel). q.taken < p.due) (heap_items q.late)
