-- Why a verification gives up, from what reading its store tells.
use Rattle.std.proofs.Common.{◌≡◌, inl, inr, ℕ, ◌≤◌, List, Bool, IsTrue, Option, None, refl, subst, arith}
use Rattle.photon_cli.proofs.Words.{⊤, REPLICAS, StoreFault, Rose, added, DiskName, end_from, Setting, IsLogOf, Misplaced, RunFault, of_place, Images, KeptDisk, AreTold, HasCause, HasFailed, PassesFor, IsCause, IsUnread, KeptStore, IsRead, cause_more, failed_rose, passed_more, unread_rose, TellsPlaces, CanBeRead, HasCauseInVerify, IsFailedRead}
use Rattle.outside.specs.declared.faults.StoreFault.TheVariants as store

-- ---- of a store that is read

module _ (before placed : Images) (within : (disk : DiskName) (c : List ℕ) → placed disk c → before disk c) (g : Setting) (tells log_tells : Bool) (sure : IsTrue tells) (log_sure : IsTrue log_tells) (log : List ℕ) (end_ : ℕ)
    (log_is : IsLogOf log g) (end_is : end_ ≡ end_from 0 g.clicks) where
  over_log : (disks : List KeptDisk) (told : Option Misplaced) → AreTold log_tells log end_ disks told → TellsPlaces g disks told
  over_log disks told against = against log_sure g log_is end_is

  pub read_so : (store : KeptStore) → IsRead tells placed REPLICAS log_tells log end_ store → CanBeRead g before
  read_so store read =
      subst (λ t. PassesFor t before REPLICAS None (TellsPlaces g)) sure (passed_more tells REPLICAS None placed before within (AreTold log_tells log end_) (TellsPlaces g) over_log (read.values, read.kept, read.fine))

  pub refused_so : (rose store_rose read faulted : Type 0) → (rose → read) → (store_rose → faulted) → (f : RunFault) → IsCause tells placed REPLICAS store_rose log_tells log end_ rose None f → HasCauseInVerify g before read faulted f
  refused_so rose store_rose read faulted to_read to_faulted f cause =
      subst (λ t. HasCause t before REPLICAS None (TellsPlaces g) (λ l. read) (λ at. faulted) ⊥ ⊤ f) sure
      (cause_more tells REPLICAS None placed before within (AreTold log_tells log end_) (TellsPlaces g) over_log
      (IsUnread tells placed REPLICAS None (AreTold log_tells log end_) rose) (λ l. read) (HasFailed tells placed REPLICAS None (AreTold log_tells log end_) store_rose) (λ at. faulted) ⊥ ⊥ ⊥ ⊤
      (λ l is. to_read (unread_rose tells placed REPLICAS None (AreTold log_tells log end_) rose l is)) (λ at is. to_faulted (failed_rose tells placed REPLICAS None (AreTold log_tells log end_) store_rose at is)) (λ x. x) (λ x. absurd x) f cause)

-- a file that couldn't be read is the click log
pub read_rose : (tells : Bool) (placed : Images) (store_rose : Type 0) (log_tells : Bool) (log : List ℕ) (end_ : ℕ) (rose : Type 0) (f : RunFault) → IsCause tells placed REPLICAS store_rose log_tells log end_ rose None f → IsFailedRead f → rose
read_rose tells placed store_rose log_tells log end_ rose f cause (inl is) = absurd (subst (IsCause tells placed REPLICAS store_rose log_tells log end_ rose None) is cause)
read_rose tells placed store_rose log_tells log end_ rose f cause (inr (l, is)) = unread_rose tells placed REPLICAS None (AreTold log_tells log end_) rose l (subst (IsCause tells placed REPLICAS store_rose log_tells log end_ rose None) is cause)

-- the faults of a log that is shut are counted
pub rose_shut : (first mid last old more : ℕ) → old ≡ 0 → first ≤ mid → last ≡ added mid more → Rose old more → Rose first last
rose_shut first mid last old more fresh later count rose = omega (arith, fresh, later, count, rose)

-- a directory that isn't placed
pub place_stops : (g : Setting) (before : Images) (read faulted : Type 0) (f : StoreFault) → (f ≡ store.Disk → faulted) → HasCauseInVerify g before read faulted (of_place f)
place_stops g before read faulted store.Disk rose = rose refl
place_stops g before read faulted store.Memory rose = tt
