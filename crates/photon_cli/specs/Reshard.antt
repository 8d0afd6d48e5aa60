-- How a resharding ends, by its exit status.
use Rattle.std.specs.Prelude.{ℕ, ◌≡◌, ◌≢◌, ◌⊎◌, List, ◌++◌, Bool, true, IsTrue, Some, Ok, Err, codes, ⊤}
use Rattle.photon_cli.specs.Terms.{AreKept, DiskName, Images, IsRow, IsSoundStore, IsTaken, KeptValues, LeavesSomething, RunFault, Setting, ShardRow, Text, TookPrefix, Topology, WasJournal, first_limit, row_text, status_of, table_text}
use Rattle.run_fault.specs.declared.fault.RunFault.TheVariants as fault
use Rattle.site_store.specs.Adding.{Answers, HasRow as KeepsRow, IsAdded, Leaves, accepted, answer_to}
use Rattle.site_store.specs.Opening.{IsDamagedIn}
use Rattle.site_store.specs.Refusals.{IsFirstDisk}
use Rattle.photon_cli.specs.Causes.{IsAtLimit, IsBelowLimits, unasked}
use Rattle.photon_cli.specs.Told.{TellsBy}
use Rattle.photon_cli.specs.declared.engine.run.TheConstants.{REPLICAS}

-- the text is this row's
abbrev pub IsRowOf : Text → ShardRow → Type 0
IsRowOf text row = IsRow row × (text ≡ row_text row)

-- it is one's
abbrev pub HasRow : Text → Type 0
HasRow text = (row : ShardRow) × IsRowOf text row

-- the bytes have the record of a topology that has the text's row more, behind records that were kept
abbrev pub HasOwnRow : Text → Images → List ℕ → Type 0
HasOwnRow text before c = (row : ShardRow) × IsRowOf text row × KeepsRow true before REPLICAS row c

-- what a resharding leaves of the disks: at 0 and 5 the row was added, and at any status but these and 6 none was
abbrev pub LeftAt : Text → (before after : Images) → (status : ℕ) → Type 0
LeftAt text before after status = Leaves before after REPLICAS (IsRowOf text) (HasOwnRow text before) ((status ≡ 0) ⊎ (status ≡ 5)) ((status ≢ 0) × (status ≢ 5) × (status ≢ 6))

-- whatever the disks kept, it forbids the row
abbrev pub IsForbidden : Images → ShardRow → Type 0
IsForbidden before row = (k : KeptValues) → AreKept true before REPLICAS 0 k → (t : Topology) → answer_to k.topology (accepted k.disks) row ≢ Ok t

-- why a row isn't added, or the line of the longer table not written, by what a stop might have left of the disks before
abbrev pub IsCauseFor : Images → (faulted : Type 0) → ShardRow → RunFault → Type 0
IsCauseFor before faulted row (fault.Store at) = faulted
IsCauseFor before faulted row (fault.Damaged disk at) = IsFirstDisk true before REPLICAS 0 disk × IsDamagedIn before disk at
IsCauseFor before faulted row (fault.Limit disk value) = (k : KeptValues) × AreKept true before REPLICAS 0 k × (first_limit k ≡ Some (fault.Limit disk value))
IsCauseFor before faulted row (fault.Reshard why) = Answers true before REPLICAS row (Err why)
IsCauseFor before faulted row fault.Write = (t : Topology) × Answers true before REPLICAS row (Ok t)
IsCauseFor before faulted row fault.Memory = ⊤
IsCauseFor before faulted row _ = ⊥

-- A resharding has neither logs, nor a plan, and asks for no topology. A fault that names a row is told where the text is no row's.
abbrev pub IsNamedInReshard : Text → RunFault → Type 0
IsNamedInReshard text (fault.Table n) = (n ≡ 0) × (HasRow text → ⊥)
IsNamedInReshard text (fault.Plan place) = ⊥
IsNamedInReshard text fault.PlanRead = ⊥
IsNamedInReshard text (fault.Refused log line w) = ⊥
IsNamedInReshard text (fault.Read log) = ⊥
IsNamedInReshard text (fault.Topology what) = ⊥
IsNamedInReshard text fault.Memory = ⊤
IsNamedInReshard text _ = HasRow text

-- and where the disks tell what they hold it has its cause
abbrev pub IsToldOfRow : Text → (disks : Bool) → Images → (faulted : Type 0) → RunFault → Type 0
IsToldOfRow text disks before faulted f = IsNamedInReshard text f × (IsTrue disks → (row : ShardRow) → IsRowOf text row → IsCauseFor before faulted row f)

-- The text is a row's, and the row stands behind those that the disks kept. This is said of the line of the longer table.
pub record Adds (text : Text) (before after : Images) (says : List ℕ → Type 0) : Type 0 where
  pub row : ShardRow
  pub is : IsRowOf text row
  pub table : List ShardRow
  pub added : IsAdded true before REPLICAS row after table
  pub line : says (table_text table ++ codes "\n")

-- What is said of bytes is said where the sinks and the disks tell what they hold; before, after, faulted and same as of a join.
pub record ReshardEnds (sinks : Bool) (output errors : Type 0) (old new err_old err_new : List ℕ) (status : ℕ) (text : Text) (same : Type 0) (disks : Bool) (before after : Images) (faulted : Type 0) : Type 0 where
  -- 0: the row was added, and the line of the longer table was written, whole; 5: so, and a prefix of it was
  pub added : IsTrue sinks → IsTrue disks → status ≡ 0 → Adds text before after (λ line. new ≡ old ++ line)
  pub prefix : IsTrue sinks → IsTrue disks → status ≡ 5 → Adds text before after (λ line. TookPrefix old line new)
  -- 2: only where the text is no row's, and there always, but for want of memory, and the store is not touched
  pub row : status ≡ 2 → HasRow text → ⊥
  pub bad_row : (HasRow text → ⊥) → same × ((status ≡ 2) ⊎ (status ≡ 8))
  -- 1, 3, 4 and 9 never; 6 only where the store's count rose; 7 never over a sound store where a stop leaves something of each disk
  pub never : (status ≢ 1) × (status ≢ 3) × (status ≢ 4) × (status ≢ 9)
  pub stopped : status ≡ 6 → faulted
  pub welcome : IsTrue disks → (g : Setting) → g.config.replicas ≡ REPLICAS → IsSoundStore g before → LeavesSomething g before → status ≢ 7
  -- 7 and 10 as of a verification; else 11, where the disks kept what forbids the row, whatever they kept
  pub damaged : IsTrue disks → HasRow text → (g : Setting) (disk : DiskName) → IsTaken (unasked g) before disk → (WasJournal g before disk → ⊥) → (faulted → ⊥) → (status ≡ 7) ⊎ (status ≡ 8)
  pub limited : IsTrue disks → HasRow text → (g : Setting) → IsAtLimit (unasked g) before → (faulted → ⊥) → (status ≡ 10) ⊎ ((status ≡ 7) ⊎ (status ≡ 8))
  pub forbidden : IsTrue disks → (row : ShardRow) → IsRowOf text row → IsForbidden before row → (faulted → ⊥) → (status ≡ 11) ⊎ ((status ≡ 10) ⊎ ((status ≡ 7) ⊎ (status ≡ 8)))
  -- any but 0 is of a fault that has its cause, and that one is told, unless the standard error has a fault
  pub caused : (status ≡ 0) ⊎ ((f : RunFault) × (status ≡ status_of f) × IsToldOfRow text disks before faulted f)
  pub tells : IsTrue sinks → (errors → ⊥) → TellsBy (IsToldOfRow text disks before faulted) status err_old err_new
  -- what stands on the disks
  pub left : IsTrue disks → LeftAt text before after status
  -- over a sound store, with no fault and nothing at its limit, the row is added or forbidden, unless memory runs out
  pub complete : IsTrue disks → HasRow text → (g : Setting) → g.config.replicas ≡ REPLICAS → IsSoundStore g before → LeavesSomething g before → IsBelowLimits (unasked g) before → (faulted → ⊥) → (output → ⊥)
      → (status ≡ 0) ⊎ ((status ≡ 8) ⊎ (status ≡ 11))
