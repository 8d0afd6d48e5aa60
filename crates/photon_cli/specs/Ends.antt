-- How each command ends, by its exit status.
use Rattle.std.specs.Prelude.{ℕ, ◌≡◌, ◌≢◌, ◌⊎◌, List, Bool, true, false, Option, IfSome, IsSomeAnd, IsTrue}
use Rattle.photon_cli.specs.Terms.{BadLine, BulkValues, DiskName, Field, HasPassed, Images, IsFirstBad, IsIdle, IsSoundStore, IsTaken, LeavesSomething, LogName, PlanView, RefusesClick, RunFault, RunLog, Setting, ShardRow, StaysAs, Text, Values, WasJournal, Wish, a_bulk_run, a_drill, a_join, a_resharding, a_verification, status_of}
use Rattle.site_run.specs.Over.{Keeps}
use Rattle.photon_cli.specs.Causes.{AreMisplaced, CanBeRead, IsAtLimit, IsBelowLimits, IsMismatched, IsOverLog, unasked}
use Rattle.photon_cli.specs.Bulk.{BeginsBulk, IsBulkRun, PrintsTotals, PrintsTotalsPrefix}
use Rattle.photon_cli.specs.Drill.{BeginsDrill, HasDrilled, IsBadIn, IsPlanIn, PrintsDrill, PrintsDrillPrefix, SparesNodes}
use Rattle.photon_cli.specs.Join.{AreValid, BeginsJoin, HasRun, IsAsked, IsHistory, IsInvalid, Prints, PrintsAfresh, PrintsPrefix, Refuses, no_plan}
use Rattle.photon_cli.specs.Reshard.{ReshardEnds}
use Rattle.photon_cli.specs.Told.{IsNamedInBulk, IsNamedInDrill, IsToldOf, IsToldOfVerify, TellsBy}
use Rattle.photon_cli.specs.Verify.{IsReadable, IsUnreadable, PrintsKept, PrintsKeptPrefix}
use Rattle.photon_cli.specs.Words.{ArePlain, AreReadAs, AreRefused, HasTable, IsTextOf}
use Rattle.photon_cli.specs.declared.engine.run.TheConstants.{REPLICAS}

-- Either it ended before all that comes before a run was found fit, and this is untouched; or it was, and the status is neither 2 nor 3.
abbrev pub Begins : (untouched fit : Type 0) → ℕ → Type 0
Begins untouched fit status = (untouched × (status ≢ 0)) ⊎ (fit × (status ≢ 2) × (status ≢ 3))

-- What is said of bytes is said where the logs, the sinks and the disks tell what they hold. Told says what bytes are under a name;
-- files, output, errors and faulted say that the count of faults rose of the source of logs, of the output, of the standard error
-- and of the store; same says that the store that was handed in is as it was, and unrun that what is left of a run is.
module _ (logs sinks : Bool) (told : List ℕ → Option (List ℕ)) (files output errors : Type 0) (old new err_old err_new : List ℕ) (status : ℕ) where
  -- Of a join for these values over the store. Before and after say what a stop might have left of its disks and may leave of them
  -- now.
  pub record JoinEnds (v : Values) (ran : Option RunLog) (same unrun : Type 0) (disks : Bool) (before after : Images) (faulted : Type 0) : Type 0 where
    -- 0: both logs are valid, and where the store was sound the report of what its disks now keep was written, whole; where it was
    -- empty it is the report on the two logs, but for clicks that are missing; unless a disk met a fault none is
    pub joined : IsTrue logs → IsTrue sinks → IsTrue disks → status ≡ 0 → Prints told v before after faulted old new
    pub afresh : IsTrue logs → IsTrue sinks → IsTrue disks → status ≡ 0 → PrintsAfresh told v before after faulted old new
    -- both sites have run, and this is what is left of the run
    pub ran_on : IsTrue logs → IsTrue disks → status ≡ 0 → HasRun told v before after ran
    -- A run begins, and the store is touched, only behind a table and two valid logs. Whatever the status, what is left of a run is
    -- then of this one: each node's entries are those that were made with its seat, and each packet that a node took was its next.
    pub begins : Begins (same × unrun) (BeginsJoin logs told v ran) status
    pub history : IsTrue disks → IsTrue logs → (g : Setting) → IsAsked told v g → unrun ⊎ IfSome ran (IsHistory g before after no_plan)
    -- 1 never
    pub one : status ≢ 1
    -- 2: only where the shards' text is no table, and there always, but for want of memory
    pub row : status ≡ 2 → (n : ℕ) × IsFirstBad v.nodes.shards n
    pub bad_row : (n : ℕ) → IsFirstBad v.nodes.shards n → (status ≡ 2) ⊎ (status ≡ 8)
    -- 3: only where a log has a refused line, and where one isn't valid always, but for a fault of the logs or want of memory
    pub lines : IsTrue logs → status ≡ 3 → (log : LogName) × (bad : BadLine) × Refuses told v.queries v.clicks log bad
    pub invalid : IsTrue logs → (log : LogName) (table : List ShardRow) → IsTextOf v.nodes.shards table → IsInvalid told v.queries v.clicks log → (files → ⊥) → (status ≡ 3) ⊎ (status ≡ 8)
    -- 6 only where the store's count rose; 7 and 9 never over a sound store where a stop leaves something of each disk
    pub stopped : status ≡ 6 → faulted
    pub welcome : IsTrue disks → IsTrue logs → (g : Setting) → IsAsked told v g → IsSoundStore g before → LeavesSomething g before → (status ≢ 7) × (status ≢ 9)
    -- 7, where a disk that is opened is no journal, whatever a stop left of it; else 9, where the topology or a place doesn't fit, whatever
    -- the disks kept; else 10, where an epoch, a round or a slot is at its limit. And there always, but for a fault of the logs or the
    -- store, or want of memory.
    pub damaged : IsTrue disks → IsTrue logs → (g : Setting) → IsAsked told v g → (disk : DiskName) → IsTaken g before disk → (WasJournal g before disk → ⊥) → (files → ⊥) → (faulted → ⊥) → (status ≡ 7) ⊎ (status ≡ 8)
    pub mismatched : IsTrue disks → IsTrue logs → (g : Setting) → IsAsked told v g → IsMismatched g before → (files → ⊥) → (faulted → ⊥) → (status ≡ 9) ⊎ ((status ≡ 7) ⊎ (status ≡ 8))
    pub limited : IsTrue disks → IsTrue logs → (g : Setting) → IsAsked told v g → IsAtLimit g before → (files → ⊥) → (faulted → ⊥) → (status ≡ 10) ⊎ ((status ≡ 9) ⊎ ((status ≡ 7) ⊎ (status ≡ 8)))
    -- 0 only where what the disks kept can be run; any other is of a fault, which names a line or a row that is so, or has its cause, and names
    -- of a run what failed
    pub passed : IsTrue disks → IsTrue logs → (g : Setting) → IsAsked told v g → status ≡ 0 → HasPassed g before
    pub caused : IsTrue logs → (status ≡ 0) ⊎ ((f : RunFault) × (status ≡ status_of f) × IsToldOf told v disks before files faulted unrun ran f)
    -- what went out before a fault of the output is a prefix of the report
    pub prefix : IsTrue logs → IsTrue sinks → IsTrue disks → status ≡ 5 → PrintsPrefix told v before after faulted old new
    -- what is told, unless the standard error has a fault
    pub tells : IsTrue logs → IsTrue sinks → (errors → ⊥) → TellsBy (IsToldOf told v disks before files faulted unrun ran) status err_old err_new
    -- At every status a sound store stays sound, and no disk's records are lost. Where nothing is left of a run, each disk but the
    -- topology's stands for what it stood for.
    pub keeps : IsTrue disks → IsTrue logs → (g : Setting) → IsAsked told v g → Keeps g g before after
    pub idle : IsTrue disks → IsTrue logs → (g : Setting) → IsAsked told v g → IsIdle before after ran
    -- over a sound store, with no fault and nothing at its limit, it ends well, unless memory runs out
    pub complete : IsTrue disks → IsTrue logs → (g : Setting) → IsAsked told v g → IsSoundStore g before → LeavesSomething g before → IsBelowLimits g before → (files → ⊥) → (faulted → ⊥) → (output → ⊥)
        → (status ≡ 0) ⊎ (status ≡ 8)

  -- Of a drill for these values with the plan of a file.
  pub record DrillEnds (v : Values) (file : Text) (ran : Option RunLog) (unrun : Type 0) : Type 0 where
    -- 0: the logs are valid, the file's bytes are a plan, both sites have run under it from nothing, and the report of that run was
    -- written, whole; no click is missing unless a joiner's node stopped, nor where no stop of the plan is of a joiner's disk
    pub drilled : IsTrue logs → IsTrue sinks → status ≡ 0 → PrintsDrill told v file ran old new
    pub ran_on : IsTrue logs → status ≡ 0 → HasDrilled told v file ran
    -- a run begins only behind a table, a plan and two valid logs, and what is left of a run is then of this one, as of a join
    pub begins : Begins unrun (BeginsDrill told logs v file ran) status
    -- 1 never
    pub one : status ≢ 1
    -- 2: only where the shards' text is no table or the file's bytes are no plan, and there always, but for a fault of the file or
    -- want of memory
    pub refused : IsTrue logs → status ≡ 2 → ((n : ℕ) × IsFirstBad v.nodes.shards n) ⊎ ((place : Field) × IsBadIn told file place)
    pub bad_row : (n : ℕ) → IsFirstBad v.nodes.shards n → (status ≡ 2) ⊎ (status ≡ 8)
    pub bad_place : IsTrue logs → (place : Field) → IsBadIn told file place → (files → ⊥) → (status ≡ 2) ⊎ (status ≡ 8)
    -- 3: only where a log has a refused line, and where one isn't valid always, but for a bad plan, a fault of the files or want of
    -- memory
    pub lines : IsTrue logs → status ≡ 3 → (log : LogName) × (bad : BadLine) × Refuses told v.queries v.clicks log bad
    pub invalid : IsTrue logs → (log : LogName) (table : List ShardRow) → IsTextOf v.nodes.shards table → IsInvalid told v.queries v.clicks log → (files → ⊥) → (status ≡ 2) ⊎ ((status ≡ 3) ⊎ (status ≡ 8))
    pub prefix : IsTrue logs → IsTrue sinks → status ≡ 5 → PrintsDrillPrefix told v file ran old new
    pub tells : IsTrue logs → IsTrue sinks → (errors → ⊥) → TellsBy (IsNamedInDrill told v file) status err_old err_new
    -- 7, 9 and 10 never: its store is empty at first; 6 only where the plan has a stop of one of a disk's first three calls, or two of one
    -- node's disks
    pub welcome : IsTrue logs → (status ≢ 7) × (status ≢ 9) × (status ≢ 10)
    pub stops : IsTrue logs → status ≡ 6 → (plan : PlanView) × IsPlanIn told file plan × (SparesNodes v plan.stops → ⊥)
    -- with a table, a plan, two valid logs and no fault of the files or the output it ends with 0, or for a fault of the run's own
    -- disks, which such a plan alone brings about, or for want of memory
    pub complete : IsTrue logs → (g : Setting) → IsAsked told v g → (plan : PlanView) → IsPlanIn told file plan → (files → ⊥) → (output → ⊥)
        → (status ≡ 0) ⊎ (((status ≡ 6) × (SparesNodes v plan.stops → ⊥)) ⊎ (status ≡ 8))

  -- Of a verification over a click log and the store in a directory.
  pub record VerifyEnds (clicks : Text) (same : Type 0) (disks : Bool) (before after : Images) (faulted : Type 0) : Type 0 where
    -- 0 and 1: the report of what the disks keep was written, whole; 1 exactly where a line tells a missing click
    pub whole : IsTrue logs → IsTrue sinks → IsTrue disks → status ≡ 0 → PrintsKept told clicks before false old new
    pub missing : IsTrue logs → IsTrue sinks → IsTrue disks → status ≡ 1 → PrintsKept told clicks before true old new
    -- the store is touched only behind a valid log, and so is a report written
    pub begins : Begins (same × (status ≢ 1) × (status ≢ 5)) (IsTrue logs → IsReadable told clicks) status
    -- 3: only where the log has a refused line, and where it isn't valid always, but for a fault of it or want of memory
    pub lines : IsTrue logs → status ≡ 3 → (bad : BadLine) × IsSomeAnd (told clicks) (λ log. RefusesClick log bad)
    pub invalid : IsTrue logs → IsUnreadable told clicks → (files → ⊥) → (status ≡ 3) ⊎ (status ≡ 8)
    -- 2 never; 6 only where the store's count rose; 7 and 9 never over a sound store where a stop leaves something of each disk
    pub words : status ≢ 2
    pub stopped : status ≡ 6 → faulted
    pub welcome : IsTrue disks → IsTrue logs → (g : Setting) → IsOverLog told clicks g → g.config.replicas ≡ REPLICAS → IsSoundStore g before → LeavesSomething g before → (status ≢ 7) × (status ≢ 9)
    -- 7, 9 and 10 as of a join, but that no topology is asked for
    pub damaged : IsTrue disks → IsTrue logs → (g : Setting) → IsOverLog told clicks g → (disk : DiskName) → IsTaken (unasked g) before disk → (WasJournal g before disk → ⊥) → (files → ⊥) → (faulted → ⊥) → (status ≡ 7) ⊎ (status ≡ 8)
    pub misplaced : IsTrue disks → IsTrue logs → (g : Setting) → IsOverLog told clicks g → AreMisplaced g before → (files → ⊥) → (faulted → ⊥) → (status ≡ 9) ⊎ ((status ≡ 7) ⊎ (status ≡ 8))
    pub limited : IsTrue disks → IsTrue logs → (g : Setting) → IsOverLog told clicks g → IsAtLimit (unasked g) before → (files → ⊥) → (faulted → ⊥) → (status ≡ 10) ⊎ ((status ≡ 9) ⊎ ((status ≡ 7) ⊎ (status ≡ 8)))
    -- 0 and 1 only where what the disks kept can be read; any other is of a fault that has its cause
    pub passed : IsTrue disks → IsTrue logs → (g : Setting) → IsOverLog told clicks g → (status ≡ 0) ⊎ (status ≡ 1) → CanBeRead g before
    pub caused : IsTrue logs → (status ≡ 0) ⊎ ((status ≡ 1) ⊎ ((f : RunFault) × (status ≡ status_of f) × IsToldOfVerify told clicks disks before files faulted f))
    pub prefix : IsTrue logs → IsTrue sinks → IsTrue disks → status ≡ 5 → PrintsKeptPrefix told clicks before old new
    pub tells : IsTrue logs → IsTrue sinks → (errors → ⊥) → ((status ≡ 1) × (err_new ≡ err_old)) ⊎ TellsBy (IsToldOfVerify told clicks disks before files faulted) status err_old err_new
    -- at every status each disk stands for what it stood for, and a sound store stays sound
    pub stays : IsTrue disks → (disk : DiskName) → StaysAs (before disk) (after disk)
    pub sound : IsTrue disks → (g : Setting) → IsSoundStore g before → IsSoundStore g after
    -- over a sound store, with no fault and nothing at its limit, it ends with 0 or 1, unless memory runs out
    pub complete : IsTrue disks → IsTrue logs → (g : Setting) → IsOverLog told clicks g → g.config.replicas ≡ REPLICAS → IsSoundStore g before → LeavesSomething g before → IsBelowLimits (unasked g) before
        → (files → ⊥) → (faulted → ⊥) → (output → ⊥) → (status ≡ 0) ⊎ ((status ≡ 1) ⊎ (status ≡ 8))

-- Of a bulk run.
module _ (sinks : Bool) (output errors : Type 0) (old new err_old err_new : List ℕ) (status : ℕ) where
  pub record BulkEnds (v : BulkValues) (ran : Option RunLog) (unrun : Type 0) : Type 0 where
    -- 0: both sites have run from nothing over the logs that are made of the numbers, and the totals line of their report was written
    pub totals : IsTrue sinks → status ≡ 0 → PrintsTotals v ran old new
    pub ran_on : status ≡ 0 → IsSomeAnd ran (IsBulkRun v)
    -- a run begins only behind a table, and what is left of a run is then of this one, as of a join
    pub begins : Begins unrun (BeginsBulk v ran) status
    -- 2: only where the shards' text is no table, and there always, but for want of memory; 1, 3 and 4 never, nor 6, 7, 9 and 10: its
    -- store is empty at first, and no stop is planned
    pub row : status ≡ 2 → (n : ℕ) × IsFirstBad v.nodes.shards n
    pub bad_row : (n : ℕ) → IsFirstBad v.nodes.shards n → (status ≡ 2) ⊎ (status ≡ 8)
    pub one : status ≢ 1
    pub lines : status ≢ 3
    pub read : status ≢ 4
    pub welcome : (status ≢ 6) × (status ≢ 7) × (status ≢ 9) × (status ≢ 10)
    -- with a table and no fault of the output it ends with 0, or for want of memory
    pub complete : HasTable v.nodes.shards → (output → ⊥) → (status ≡ 0) ⊎ (status ≡ 8)
    pub prefix : IsTrue sinks → status ≡ 5 → PrintsTotalsPrefix v ran old new
    pub tells : IsTrue sinks → (errors → ⊥) → TellsBy (IsNamedInBulk v) status err_old err_new

-- How what is asked for ends, where the words are read as it.
module _ (logs sinks disks : Bool) (told : List ℕ → Option (List ℕ)) (files output errors faulted : Type 0) (before after : Images) (same unrun : Type 0) (ran : Option RunLog)
    (old new err_old err_new : List ℕ) (status : ℕ) where
  abbrev pub Ends : Wish → Type 0
  Ends (a_join v state) = JoinEnds logs sinks told files output errors old new err_old err_new status v ran same unrun disks before after faulted
  Ends (a_drill v plan) = DrillEnds logs sinks told files output errors old new err_old err_new status v plan ran unrun × same
  Ends (a_verification clicks state) = VerifyEnds logs sinks told files output errors old new err_old err_new status clicks same disks before after faulted × unrun
  Ends (a_bulk_run v) = BulkEnds sinks output errors old new err_old err_new status v ran unrun × same
  Ends (a_resharding state row) = ReshardEnds sinks output errors old new err_old err_new status row same disks before after faulted × unrun

  -- How a call with these words ends. Kept says that the logs and the output are as they were.
  pub record AreObeyed (words : List Text) (kept : Type 0) : Type 0 where
    -- The words are refused, which is 2, or they are read as one of the commands, or memory runs out, 8. Where they are refused nothing
    -- is touched but the standard error. Plain words are read as they stand.
    pub read : (AreRefused words × (status ≡ 2)) ⊎ (((w : Wish) × AreReadAs words w) ⊎ (status ≡ 8))
    pub refused : AreRefused words → (status ≡ 2) ⊎ (status ≡ 8)
    pub untouched : AreRefused words → kept × same × unrun
    pub plain : (w : Wish) → ArePlain words w → AreReadAs words w
    -- whatever the words are read as, it ends so
    pub ends : (w : Wish) → AreReadAs words w → Ends w
    -- where the shards' text is a table's and both logs are valid, there is a setting that the values ask for
    pub setting : (v : Values) (table : List ShardRow) → IsTextOf v.nodes.shards table → AreValid told v.queries v.clicks → (g : Setting) × IsAsked told v g
