-- The logs of a run.
use Rattle.std.specs.Prelude.{ℕ, List, ⊤}
use Rattle.site_run.specs.Terms.{Clicks, LogName, Queries, RunFault}
use Rattle.run_fault.specs.declared.fault.RunFault.TheVariants as fault
use Rattle.site_run.specs.declared.asked.Names.{Names}

-- the name of a log
abbrev pub name_of : Names → LogName → List ℕ
name_of names Queries = names.queries.now
name_of names Clicks = names.clicks.now

-- a log isn't opened for a fault of the source, whose count rose, or for want of memory
abbrev pub IsOfLogs : (rose : LogName → Type 0) → RunFault → Type 0
IsOfLogs rose (fault.Read log) = rose log
IsOfLogs rose fault.Memory = ⊤
IsOfLogs rose _ = ⊥
