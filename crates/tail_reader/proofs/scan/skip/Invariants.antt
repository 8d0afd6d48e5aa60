use Rattle.std.proofs.Common.{◌≡◌, ◌≤◌, ◌-◌, ◌*◌, [], IsTrue}
use Rattle.log_records.specs.declared.check.TheConstants.{MAX_LOG}
use Rattle.tail_reader.proofs.Windows.{Passed}
use Rattle.tail_reader.proofs.scan.skip.Given as goal

-- the bytes before `at` lack a line feed
abbrev pub invariant-loop-at : goal.invariant-loop-at
invariant-loop-at g l =
    record {
      front : IsTrue g.L.LogFile.tells → Passed (g.L.LogFile.bytes l.log) l.from l.at;
      cleared : l.window.1 ≡ [];
      low : l.at ≤ 2 * MAX_LOG;
      same : IsTrue g.L.LogFile.tells → g.L.LogFile.bytes l.log ≡ g.L.LogFile.bytes l.fn.log;
      no_fault : g.L.LogFile.faults l.log ≡ g.L.LogFile.faults l.fn.log;
    }

abbrev pub decreases-loop-at : goal.decreases-loop-at
decreases-loop-at g l = MAX_LOG - l.at
