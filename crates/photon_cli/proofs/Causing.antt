-- By what a fault and its cause say, how a join or a verification may end.
use Rattle.std.proofs.Common.{arith, ◌≡◌, ◌≢◌, ◌⊎◌, ℕ, List, true, Option, None}
use Rattle.photon_cli.proofs.Words.{⊤, Topology, LogName, Misplaced, RunFault, IsWelcome, status_of, Images, IsFitFor, KeptDisk, KeptValues, HasCause, first_limit, cause_more, IsLogFault, IsPast, failed_read}
use Rattle.run_fault.specs.declared.fault.RunFault.TheVariants as fault
use Rattle.site_store.specs.Causes.{Keeps}

-- what might have been left before, what is asked, what is told of the places, and when a log's fault, a disk's, and a node's limit is
module _ (before : Images) (replicas : ℕ) (asked : Option Topology) (told : List KeptDisk → Option Misplaced → Type 0) (faulted late : Type 0) where
  abbrev Has : (read : Type 0) → RunFault → Type 0
  Has read f = HasCause true before replicas asked told (λ log. read) (λ at. faulted) late ⊤ f

  -- the fault of a log that is checked
  pub log_caused : (read : Type 0) (f : RunFault) (log : LogName) → IsLogFault log f → (f ≡ failed_read log → read) → Has read f
  log_caused read f log h rose = grind arith

  -- that of what comes later, whose files were read before
  pub later_caused : (files read : Type 0) → (files → read) → (f : RunFault) → Has files f → Has read f
  later_caused files read more =
      cause_more true replicas asked before before (λ disk b here. here) told told (λ disks m is. is) (λ log. files) (λ log. read) (λ at. faulted) (λ at. faulted) late late ⊤ ⊤ (λ log. more) (λ at rose. rose) (λ l. l) (λ x. x)

  -- ---- how it may end with no fault of the logs or the store

  module _ (read : Type 0) (calm : read → ⊥) (still : faulted → ⊥) (never : late → ⊥) where
    pub damage_told : (f : RunFault) → IsPast f → Has read f → ((k : KeptValues) → Keeps true before replicas asked told k → ⊥) → (status_of f ≡ 7) ⊎ (status_of f ≡ 8)
    damage_told h past has none = grind arith

    pub mismatch_told : (f : RunFault) → IsPast f → Has read f → ((k : KeptValues) → Keeps true before replicas asked told k → IsFitFor k.topology asked → told k.disks None → ⊥) → (status_of f ≡ 9) ⊎ ((status_of f ≡ 7) ⊎ (status_of f ≡ 8))
    mismatch_told h past has other = grind arith

    pub limit_told : (f : RunFault) → IsPast f → Has read f → ((k : KeptValues) → Keeps true before replicas asked told k → first_limit k ≢ None) → (status_of f ≡ 10) ⊎ ((status_of f ≡ 9) ⊎ ((status_of f ≡ 7) ⊎ (status_of f ≡ 8)))
    limit_told h past has at = grind arith

    -- over a sound store with nothing at its limit nothing is left but want of memory
    pub ends_well : (f : RunFault) → IsPast f → Has read f → (holds : Type 0) → holds → ((k : KeptValues) → Keeps true before replicas asked told k → first_limit k ≡ None) → (f ≡ fault.Write → ⊥) → IsWelcome holds f → status_of f ≡ 8
    ends_well h past has holds x below written fair = grind arith
