-- Why a command gives up.
use Rattle.std.specs.Prelude.{ℕ, ◌≡◌, ◌⊎◌, ⊤}
use Rattle.photon_cli.specs.Terms.{BadLine, Clicks, Field, IsCounted, IsFirstBad, LogName, Queries, RunFault, Text, Why}
use Rattle.run_fault.specs.declared.fault.RunFault.TheVariants as fault
use Rattle.photon_cli.specs.Words.{HasTable}

-- the log couldn't be read
abbrev pub failed_read : LogName → RunFault
failed_read log = fault.Read log

-- what may be wrong with a log
abbrev pub IsLogFault : LogName → RunFault → Type 0
IsLogFault log f = ((line : ℕ) × (w : Why) × (f ≡ fault.Refused log line w)) ⊎ (f ≡ failed_read log) ⊎ (f ≡ fault.Memory)

-- the text of the shards is no table, and its first bad row is told
abbrev pub IsRowFault : Text → RunFault → Type 0
IsRowFault shards f = (row : ℕ) × (f ≡ fault.Table row) × IsFirstBad shards row

-- what may be told before the run: what is wrong with the table, or, behind a table, one of these
abbrev pub IsEarly : (RunFault → Type 0) → Text → RunFault → Type 0
IsEarly behind shards f = IsRowFault shards f ⊎ (HasTable shards × behind f)

-- what may be wrong with the logs
abbrev pub IsOfLogs : RunFault → Type 0
IsOfLogs f = (log : LogName) × IsLogFault log f

-- What a fault names is so: a row, a place of the plan, a line, a log that couldn't be read, the plan's file. One that adds no row is told.
abbrev pub IsNamedBy : (row : ℕ → Type 0) (place : Field → Type 0) (line : LogName → BadLine → Type 0) (read : LogName → Type 0) (file : Type 0) → RunFault → Type 0
IsNamedBy row place line read file (fault.Table n) = row n
IsNamedBy row place line read file (fault.Plan at) = place at
IsNamedBy row place line read file (fault.Refused log n w) = line log (record { line = n; why = w })
IsNamedBy row place line read file (fault.Read log) = read log
IsNamedBy row place line read file fault.PlanRead = file
IsNamedBy row place line read file (fault.Reshard u) = ⊥
IsNamedBy row place line read file _ = ⊤

-- what may be told behind all that comes before the run
abbrev pub IsPast : RunFault → Type 0
IsPast = IsNamedBy (λ row. ⊥) (λ place. ⊥) (λ log line. ⊥) (λ log. ⊤) ⊥

-- ---- of a drill

-- what may be wrong with a plan
abbrev pub IsPlanFault : RunFault → Type 0
IsPlanFault f = ((place : Field) × (f ≡ fault.Plan place)) ⊎ ((f ≡ fault.PlanRead) ⊎ (f ≡ fault.Memory))

-- the plan is bad at this place: that is told, or its file couldn't be read, or memory was wanting
abbrev pub IsToldOfPlan : Field → RunFault → Type 0
IsToldOfPlan place f = (f ≡ fault.Plan place) ⊎ ((f ≡ fault.PlanRead) ⊎ (f ≡ fault.Memory))

-- the same where the table is read before
abbrev pub IsBeforeLogs : Field → RunFault → Type 0
IsBeforeLogs place f = ((row : ℕ) × (f ≡ fault.Table row)) ⊎ IsToldOfPlan place f

-- or with the plan
abbrev pub IsOfPlanOrLogs : RunFault → Type 0
IsOfPlanOrLogs f = IsPlanFault f ⊎ IsOfLogs f

-- a file couldn't be read
abbrev pub IsFailedRead : RunFault → Type 0
IsFailedRead f = (f ≡ fault.PlanRead) ⊎ ((log : LogName) × (f ≡ failed_read log))

-- A drill tells neither of damage, nor of another topology, nor of a number at its limit, and of a disk only where there are stops.
abbrev pub IsOfDrill : (stops : Type 0) → RunFault → Type 0
IsOfDrill stops (fault.Store at) = stops
IsOfDrill stops (fault.Limit disk value) = ⊥
IsOfDrill stops (fault.Damaged disk at) = ⊥
IsOfDrill stops (fault.Topology what) = ⊥
IsOfDrill stops _ = ⊤

-- why a drill's run gives up, or a store isn't read: for a fault of the run, of the disks or of a log, or for want of memory
abbrev pub IsOfRun : RunFault → Type 0
IsOfRun f = IsCounted ⊤ ⊤ f

-- ---- of a verification: it has neither a table, nor a plan, nor queries, and adds no row

-- it is of the clicks' log, where this is so
abbrev pub OfClicks : Type 0 → LogName → Type 0
OfClicks P Queries = ⊥
OfClicks P Clicks = P

abbrev pub IsOfVerify : RunFault → Type 0
IsOfVerify = IsNamedBy (λ row. ⊥) (λ place. ⊥) (λ log line. OfClicks ⊤ log) (OfClicks ⊤) ⊥
