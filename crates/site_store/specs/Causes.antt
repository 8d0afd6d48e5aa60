-- Why a store isn't opened, read or run over: the causes of the statuses, by what a stop might have left of its disks before.
use Rattle.std.specs.Prelude.{◌≡◌, ◌⊎◌, ℕ, List, Bool, IsTrue, Option, None, Some, ⊤}
use Rattle.site_store.specs.Terms.{Clicks, DiskName, IsDisk, IsLogOf, LAST_EPOCH, LogName, Misplaced, RunFault, Setting, StorePlace, Topology, end_from}
use Rattle.run_fault.specs.declared.fault.StorePlace.TheVariants as place
use Rattle.run_fault.specs.declared.fault.Mismatch.TheVariants as mismatch
use Rattle.run_fault.specs.declared.fault.RunFault.TheVariants as fault
use Rattle.site_store.specs.Misfits.{IsMisfit, IsFitFor, limit_in}
use Rattle.site_store.specs.Opening.{IsDamagedIn}
use Rattle.site_store.specs.Refusals.{IsFirstDisk}
use Rattle.site_store.specs.Kept.{all_kept, IsTold}
use Rattle.site_store.specs.Records.{KeptDisk, KeptValues, AreKept}

-- how many joiners a site is asked to have
abbrev pub joiners_asked : Option Topology → ℕ
joiners_asked None = 0
joiners_asked (Some asked) = asked.joiners

-- the first epoch, round or slot at its limit
abbrev pub first_limit : KeptValues → Option RunFault
first_limit k = limit_in k.disks

-- why a kept topology isn't the asked one, where one is asked
abbrev pub IsOther : Option Topology → Option Topology → RunFault → Type 0
IsOther kept None f = ⊥
IsOther kept (Some asked) f = IsMisfit kept asked f

-- ---- of kept values

-- A topology may be asked. Told says what is told of the places that disks keep of the click log: the first that doesn't fit, or none.
module _ (asked : Option Topology) (told : List KeptDisk → Option Misplaced → Type 0) where
  -- no other topology is kept than the asked one, the places fit the log, and nothing is at its limit
  pub record Passes (k : KeptValues) : Type 0 where
    pub topology : IsFitFor k.topology asked
    pub places : told k.disks None
    pub limits : first_limit k ≡ None

  -- why they can't be run or read: the first of the topology, the places and the limits that is wrong, or the click log met a fault
  abbrev pub IsUnfit : (rose : Type 0) → KeptValues → RunFault → Type 0
  IsUnfit rose k (fault.Topology (mismatch.Joiners kept wanted)) = IsOther k.topology asked (fault.Topology (mismatch.Joiners kept wanted))
  IsUnfit rose k (fault.Topology (mismatch.Table kept wanted)) = IsOther k.topology asked (fault.Topology (mismatch.Table kept wanted))
  IsUnfit rose k (fault.Topology (mismatch.Place p)) = IsFitFor k.topology asked × told k.disks (Some p)
  IsUnfit rose k (fault.Limit disk value) = IsFitFor k.topology asked × told k.disks None × (first_limit k ≡ Some (fault.Limit disk value))
  IsUnfit rose k (fault.Read Clicks) = IsFitFor k.topology asked × rose
  IsUnfit rose k _ = ⊥

-- ---- of a store

module _ (tells : Bool) (before : DiskName → List ℕ → Type 0) (replicas : ℕ) (asked : Option Topology) (told : List KeptDisk → Option Misplaced → Type 0) where
  -- the disks that were opened kept these values
  abbrev pub Keeps : KeptValues → Type 0
  Keeps k = AreKept tells before replicas (joiners_asked asked) k

  -- they kept values that can be run or read
  abbrev pub HasPassed : Type 0
  HasPassed = (k : KeptValues) × Keeps k × Passes asked told k

  -- Why a store or a run gives up. Read says that a log met a fault, failed that a disk did; a limit is told of what the disks kept, or
  -- late, of a node in its last epoch. Where the report isn't written the disks had kept what can be run. Of the words, the logs and the
  -- plan the disks say nothing, and early is said.
  abbrev pub HasCause : (read : LogName → Type 0) → (failed : StorePlace → Type 0) → (late early : Type 0) → RunFault → Type 0
  HasCause read failed late early (fault.Read log) = read log
  HasCause read failed late early (fault.Store at) = failed at
  HasCause read failed late early (fault.Damaged disk at) = IsFirstDisk tells before replicas (joiners_asked asked) disk × (IsTrue tells → IsDamagedIn before disk at)
  HasCause read failed late early (fault.Topology what) = (k : KeptValues) × Keeps k × IsUnfit asked told ⊥ k (fault.Topology what)
  HasCause read failed late early (fault.Limit disk value) = ((k : KeptValues) × Keeps k × IsUnfit asked told ⊥ k (fault.Limit disk value)) ⊎ (late × (value ≡ LAST_EPOCH))
  HasCause read failed late early fault.Write = early × HasPassed
  HasCause read failed late early fault.Memory = ⊤
  HasCause read failed late early _ = early

  -- the click log wasn't read, for values that the disks kept
  abbrev pub IsUnread : Type 0 → LogName → Type 0
  IsUnread rose log = (k : KeptValues) × Keeps k × IsUnfit asked told rose k (fault.Read log)

  -- the first disk that isn't opened has failed
  abbrev pub HasFailed : Type 0 → StorePlace → Type 0
  HasFailed rose (place.Disk disk) = IsFirstDisk tells before replicas (joiners_asked asked) disk × rose
  HasFailed rose _ = ⊥

-- the first place that doesn't fit is told, or none, against whatever lines the log has
abbrev pub AreTold : Bool → List ℕ → ℕ → List KeptDisk → Option Misplaced → Type 0
AreTold tells log end_ disks told = IsTrue tells → (g : Setting) → IsLogOf log g → end_ ≡ end_from 0 g.clicks → IsTold g.clicks (all_kept disks) told

-- these values can be run or read over a log
abbrev pub ArePassed : Bool → List ℕ → ℕ → Option Topology → KeptValues → Type 0
ArePassed tells log end_ asked k = Passes asked (AreTold tells log end_) k

-- why a store isn't opened or read
abbrev pub IsCause : Bool → (DiskName → List ℕ → Type 0) → (replicas : ℕ) → (faulted : Type 0) → Bool → List ℕ → ℕ → (read : Type 0) → Option Topology → RunFault → Type 0
IsCause tells before replicas faulted log_tells log end_ read asked f =
    HasCause tells before replicas asked (AreTold log_tells log end_) (IsUnread tells before replicas asked (AreTold log_tells log end_) read) (HasFailed tells before replicas asked (AreTold log_tells log end_) faulted) ⊥ ⊥ f

-- ---- of a sound store

-- a stop leaves something of each disk of the setting, be it no bytes
abbrev pub LeavesSomething : Setting → (DiskName → List ℕ → Type 0) → Type 0
LeavesSomething g image = (disk : DiskName) → IsDisk g disk → (c : List ℕ) × image disk c
