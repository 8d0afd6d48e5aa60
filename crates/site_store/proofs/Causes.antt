-- Why a store isn't opened, read or run over.
use Rattle.std.proofs.Common.{◌≡◌, ◌≢◌, inl, inr, ⊎_elim, ℕ, ◌≤◌, List, [], ◌∷◌, Bool, Option, Some, None, arith, IfSome, IfNone, MatchOption}
use Rattle.site_store.proofs.Words.{none_some, each_more, DiskName, Rose, added, Topology, IsKeptIn, LogName, Clicks, StorePlace, Misplaced, RunFault, IsFitFor, limit_at, or_else, limit_in, IsUnopened, IsFirstDisk, IsJournalOf, IsUnwritten, KeptDisk, KeptValues, KeepsAs, IsKept, AreKept, AreTold, ArePassed, HasCause, HasFailed, HasPassed, IsCause, IsUnfit, IsUnread, first_limit, joiners_asked}
use Rattle.outside.specs.declared.store.DiskName.TheVariants as name
use Rattle.run_fault.specs.declared.fault.StorePlace.TheVariants as place
use Rattle.run_fault.specs.declared.fault.Mismatch.TheVariants as mismatch
use Rattle.run_fault.specs.declared.fault.RunFault.TheVariants as fault

-- ---- why a store isn't opened

module _ (tells : Bool) (before : DiskName → List ℕ → Type 0) (replicas : ℕ) (asked : Option Topology) (told : List KeptDisk → Option Misplaced → Type 0) (read : LogName → Type 0) (early : Type 0) where
  -- a disk isn't opened
  pub unopened_cause : (old new : ℕ) (f : RunFault) → IsUnopened tells before old new (IsFirstDisk tells before replicas (joiners_asked asked)) f
      → HasCause tells before replicas asked told read (HasFailed tells before replicas asked told (Rose old new)) ⊥ early f
  unopened_cause old new f is = grind arith

  -- the topology's record isn't written
  pub unwritten_cause : (fresh n old mid new : ℕ) (f : RunFault) → IsUnwritten fresh n f → old ≤ mid → added mid n ≤ new
      → HasCause tells before replicas asked told read (HasFailed tells before replicas asked told (Rose old new)) ⊥ early f
  unwritten_cause fresh n old mid new f h le counted = grind arith

module _ (tells : Bool) (before : DiskName → List ℕ → Type 0) (replicas : ℕ) (log_tells : Bool) (log : List ℕ) (end_ : ℕ) (read : Type 0) (asked : Option Topology) where
  -- what was opened can't be run or read
  pub judged : (faulted : Type 0) (k : KeptValues) (f : RunFault) → AreKept tells before replicas (joiners_asked asked) k → IsUnfit asked (AreTold log_tells log end_) read k f → IsCause tells before replicas faulted log_tells log end_ read asked f
  judged faulted k f is why = grind arith

-- a log that wasn't read, or a disk that failed, raised its count
module _ (tells : Bool) (before : DiskName → List ℕ → Type 0) (replicas : ℕ) (asked : Option Topology) (told : List KeptDisk → Option Misplaced → Type 0) (rose : Type 0) where
  pub unread_rose : (log : LogName) → IsUnread tells before replicas asked told rose log → rose
  unread_rose log is = grind arith

  pub failed_rose : (at : StorePlace) → HasFailed tells before replicas asked told rose at → rose
  failed_rose at is = grind arith

-- but for a fault of the topology's disk memory was wanting
pub unwritten_memory : (P : Type 0) (f : RunFault) (old new : ℕ) → IsUnwritten old new f → f ≢ fault.Store (place.Disk name.Topology) → (f ≡ fault.Memory → P) → P
unwritten_memory P f old new h other from = grind arith

-- ---- values that aren't run

-- what is told where nothing was
pub none_is : {A P : Type 0} (told : Option A) (Q : A → Type 0) → ((x : A) → told ≡ Some x → ⊥) → MatchOption told P Q → P
none_is told Q not h = grind arith

first_or_later : (P : Type 0) (one later : Option RunFault) (f : RunFault) → (one ≡ Some f → P) → (later ≡ Some f → P) → or_else one later ≡ Some f → P
first_or_later P one later f here behind e = grind arith

-- and nothing else is
pub limit_is : (disks : List KeptDisk) (f : RunFault) → limit_in disks ≡ Some f → (disk : DiskName) × (value : ℕ) × (f ≡ fault.Limit disk value)
limit_is [] f e = none_some f e
limit_is (d ∷ ds) f e = first_or_later _ (limit_at d.name d.kept) (limit_in ds) f (λ e. grind arith) (limit_is ds f) e

module _ (tells : Bool) (log : List ℕ) (end_ : ℕ) (asked : Option Topology) (k : KeptValues) where
  -- what the limits tell
  module _ (fit : IsFitFor k.topology asked) (places : AreTold tells log end_ k.disks None) where
    pub passed_for : (told : Option RunFault) → told ≡ first_limit k → IfNone told (ArePassed tells log end_ asked k)
    passed_for told e = grind arith

    pub limit_for : (rose : Type 0) (told : Option RunFault) → told ≡ first_limit k → IfSome told (IsUnfit asked (AreTold tells log end_) rose k)
    limit_for rose told e = grind (arith, limit_is)

-- ---- a cause of more

-- from a store that was placed to the one before, by what is told of the places and more
module _ (tells : Bool) (replicas : ℕ) (asked : Option Topology) (placed before : DiskName → List ℕ → Type 0) (within : (disk : DiskName) (c : List ℕ) → placed disk c → before disk c)
    (places told : List KeptDisk → Option Misplaced → Type 0) (more : (disks : List KeptDisk) (m : Option Misplaced) → places disks m → told disks m) where
  kept_within : (disk : DiskName) (keeps : List ℕ → Type 0) → IsKeptIn (placed disk) keeps → IsKeptIn (before disk) keeps
  kept_within disk keeps kept = (kept.0, within disk kept.0 kept.1, kept.2)

  all_within : (k : KeptValues) → AreKept tells placed replicas (joiners_asked asked) k → AreKept tells before replicas (joiners_asked asked) k
  all_within k are = record {
    topology = λ sure. kept_within _ _ (are.topology sure);
    named = are.named;
    kinds = are.kinds;
    kept = λ sure. each_more (IsKept placed) (IsKept before) k.disks (λ o kept. kept_within o.name (KeepsAs o.kept) kept) (are.kept sure);
  }

  pub passed_more : HasPassed tells placed replicas asked places → HasPassed tells before replicas asked told
  passed_more (k, are, passes) = (k, all_within k are, record { topology = passes.topology; places = more _ _ passes.places; limits = passes.limits })

  unfit_more : (k : KeptValues) (f : RunFault) → IsUnfit asked places ⊥ k f → IsUnfit asked told ⊥ k f
  unfit_more k (fault.Topology (mismatch.Joiners kept wanted)) why = why
  unfit_more k (fault.Topology (mismatch.Table kept wanted)) why = why
  unfit_more k (fault.Topology (mismatch.Place p)) why = (why.0, more _ _ why.1)
  unfit_more k (fault.Limit disk value) why = (why.0, more _ _ why.1, why.2)
  unfit_more k (fault.Read Clicks) why = absurd why.1
  unfit_more k _ why = absurd why

  first_within : (disk : DiskName) → IsFirstDisk tells placed replicas (joiners_asked asked) disk → IsFirstDisk tells before replicas (joiners_asked asked) disk
  first_within disk (inl topology) = inl topology
  first_within disk (inr (kept, kept_in, first)) = inr (
    kept,
    λ sure. kept_within _ _ (kept_in sure),
    record {
      front = first.front;
      rest = first.rest;
      order = first.order;
      opened = λ sure. each_more (λ name. IsKeptIn (placed name) (IsJournalOf name)) (λ name. IsKeptIn (before name) (IsJournalOf name)) first.front (λ name kept. kept_within name (IsJournalOf name) kept) (first.opened sure);
    },
  )

  pub cause_more : (files read : LogName → Type 0) (was failed : StorePlace → Type 0) (rose late few early : Type 0) → ((log : LogName) → files log → read log) → ((at : StorePlace) → was at → failed at) → (rose → late) → (few → early)
      → (f : RunFault) → HasCause tells placed replicas asked places files was rose few f → HasCause tells before replicas asked told read failed late early f
  cause_more files read was failed rose late few early reads fails lates earlier (fault.Read log) cause = reads log cause
  cause_more files read was failed rose late few early reads fails lates earlier (fault.Store at) cause = fails at cause
  cause_more files read was failed rose late few early reads fails lates earlier (fault.Damaged disk at) (first, was_so) = (first_within disk first, λ sure. kept_within disk _ (was_so sure))
  cause_more files read was failed rose late few early reads fails lates earlier (fault.Topology what) (k, are, why) = (k, all_within k are, unfit_more k (fault.Topology what) why)
  cause_more files read was failed rose late few early reads fails lates earlier (fault.Limit disk value) cause =
      ⊎_elim (λ (k, are, why). inl (k, all_within k are, unfit_more k (fault.Limit disk value) why)) (λ x. inr (lates x.0, x.1)) cause
  cause_more files read was failed rose late few early reads fails lates earlier fault.Write (own, passed) = (earlier own, passed_more passed)
  cause_more files read was failed rose late few early reads fails lates earlier fault.Memory cause = tt
  cause_more files read was failed rose late few early reads fails lates earlier _ cause = earlier cause
