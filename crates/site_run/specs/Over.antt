-- How a run for a setting ends over a store.
use Rattle.std.specs.Prelude.{◌≡◌, ◌≢◌, ℕ, List, Option, None, Result, IfErr, IfOk, IfSome, IsSomeAnd, OnOk}
use Rattle.site_run.specs.Terms.{DiskName, Disks, GoesOn, Images, IsSoundStore, IsWelcome, LeavesSomething, Lent, RunFault, SameRecords, Setting, StaysAs, TopologyDisk}
use Rattle.site_run.specs.declared.ran.Outcome.{Outcome}
use Rattle.site_run.specs.declared.ran.RunLog.{RunLog}
use Rattle.site_run.specs.Left.{HasRested, HasRun, RestLeft, RunLeft}
use Rattle.site_run.specs.Out.{AreOut}
use Rattle.site_run.specs.Refused.{HasPassed, IsCauseOf, IsOfRun, NamesFailed}

-- what a call keeps of a store: where it was sound for the first setting it is for the second, and no disk's records are lost
pub record Keeps (g h : Setting) (before after : Images) : Type 0 where
  pub sound : IsSoundStore g before → IsSoundStore h after
  pub grown : (disk : DiskName) → GoesOn (before disk) (after disk)

-- where nothing is left of a run, each disk but the topology's stands for what it stood for
abbrev pub IsIdle : (before after : Images) → Option RunLog → Type 0
IsIdle before after ran = ran ≡ None → (disk : DiskName) → disk ≢ TopologyDisk → StaysAs (before disk) (after disk)

-- Before and after say what a stop might have left of the store's disks and may leave of them now; read and faulted that the count
-- of the logs' faults rose and that of the disks'.
module _ (g : Setting) (before after : Images) (read faulted : Type 0) (ran : Option RunLog) where
  -- Where it ends well the disks had kept what can be run; a fault has its cause. A sound store isn't refused for the table or the
  -- places that it keeps, nor, where a stop leaves something of each disk, for its number of joiners or for a damaged disk.
  pub record EndsOver {A : Type 0} (result : Result A RunFault) : Type 0 where
    pub keeps : Keeps g g before after
    pub idle : IsIdle before after ran
    pub passed : OnOk result (HasPassed g before)
    pub caused : IfErr result (IsCauseOf g before read faulted)
    pub welcome : IsSoundStore g before → IfErr result (IsWelcome (LeavesSomething g before))

  -- Where a run began its history is one of the whole system, from what the disks kept when they were opened. Where it ends well
  -- all nodes have come to rest, and the journals are what the disks keep. Where it gives up the history tells what failed.
  pub record RunsOver (result : Result Outcome RunFault) : Type 0 where
    pub ends : EndsOver result
    pub left : IfSome ran (RunLeft g before after)
    pub rest : IfOk result (λ outcome. IsSomeAnd ran (λ l. RestLeft g before after l.air.history faulted outcome.journals))
    pub named : IfErr result (λ f. IfSome ran (λ l. NamesFailed g l.air.history l.opened f))

-- How a run of nodes ends that were opened over these records, while their disks and the topology's are out. The disks go on from what might
-- have been left of them, and the history is a run from any records that say the same. What failed is named by it.
pub record NodesEnd {D S : Type 0} (image : D → List ℕ → Type 0) (store_image : S → Images) (g : Setting) (d : Disks) (old new : S) (topology : Lent D) (others : List (Lent D)) (faulted : Type 0) (ran : Option RunLog) (result : Result Outcome RunFault) : Type 0 where
  pub grown : (s : S) → AreOut image (store_image s) (store_image old) topology others → (disk : DiskName) → GoesOn (store_image s disk) (store_image new disk)
  pub left : (e : Disks) → SameRecords g d e → IfSome ran (λ l. HasRun g e l.air.history (store_image new))
  pub rest : (e : Disks) → SameRecords g d e → IfOk result (λ outcome. IsSomeAnd ran (λ l. HasRested g e l.air.history (store_image new) faulted outcome.journals))
  pub named : IfErr result (IsOfRun g d faulted ran)
