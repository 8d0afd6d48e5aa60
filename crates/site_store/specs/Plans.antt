-- The stops that are planned for disks, in a store and out of it.
use Rattle.std.specs.Prelude.{◌≡◌, ◌+◌, ℕ, List, Bool}
use Rattle.site_store.specs.Terms.{AtMost, DiskName, Each, RunFault, StopsAmong}
use Rattle.outside.specs.declared.disk.Disk as disk
use Rattle.outside.specs.declared.store.Store as store
use Rattle.outside.specs.declared.store.DiskName.TheVariants as name
use Rattle.run_fault.specs.declared.fault.StorePlace.TheVariants as place
use Rattle.run_fault.specs.declared.fault.RunFault.TheVariants as fault
use Rattle.site_store.specs.Lent.{Lent, Lacks}

-- at most so many of the calls to come of the store's disk of a name are planned to fail
abbrev pub Left : {S : Type 0} → (S → DiskName → ℕ → Bool) → (S → DiskName → ℕ) → S → DiskName → ℕ → Type 0
Left stops made store name most = AtMost (stops store name) (made store name) most

-- One of the next three calls of the store's disk of a name is planned to fail, which are as many as opening it makes. Of the topology's, which
-- is written then, some call is.
abbrev pub HasSoon : {S : Type 0} → (S → DiskName → ℕ → Bool) → (S → DiskName → ℕ) → S → DiskName → Type 0
HasSoon stops made now name.Topology = Left stops made now name.Topology 0 → ⊥
HasSoon stops made now name = StopsAmong (stops now name) (made now name) (made now name + 3)

-- How opening a planned store gives up: it tells the disk that failed, which had such a stop, or it met no fault.
abbrev pub IsByPlan : {S : Type 0} → (S → DiskName → ℕ → Bool) → (S → DiskName → ℕ) → (S → ℕ) → (old new : S) → RunFault → Type 0
IsByPlan stops made faults old new (fault.Store (place.Disk disk)) = HasSoon stops made old disk
IsByPlan stops made faults old new (fault.Store _) = ⊥
IsByPlan stops made faults old new _ = faults new ≡ faults old

module _ {D : Type 0} (stops : D → ℕ → Bool) (made faults : D → ℕ) where
  -- a disk for which no more stops are planned than these, and which met no fault
  pub record IsAsPlanned (plan : ℕ → Type 0) (disk : D) : Type 0 where
    pub most : (k : ℕ) → plan k → AtMost (stops disk) (made disk) k
    pub calm : faults disk ≡ 0

  -- each of these disks is so by what is planned under its name
  abbrev pub AllAsPlanned : (left : DiskName → ℕ → Type 0) → List (Lent D) → Type 0
  AllAsPlanned left lent = Each (λ l. IsAsPlanned (left l.name) l.disk) lent

-- Each of these disks, which were taken from a store, is so by what was planned for it there. The others have the plans that they had, and no
-- fault was met.
pub record AreAsPlanned {D S : Type 0} (d : disk.Ghosts D) (s : store.Ghosts S D) (before after : S) (lent : List (Lent D)) : Type 0 where
  pub out : AllAsPlanned d.stops d.made d.faults (Left s.stops s.made before) lent
  pub others : (name : DiskName) → Lacks lent name → ((n : ℕ) → s.stops after name n ≡ s.stops before name n) × (s.made after name ≡ s.made before name)
  pub still : s.faults after ≡ s.faults before
