use Rattle.std.proofs.Common.{suc, ◌≡◌, ◌-◌, length, IsTrue}
use Rattle.log_records.specs.declared.lines.TheConstants.{MAX_LINE}
use Rattle.tail_reader.specs.Buffered.{Buffers}
use Rattle.tail_reader.proofs.scan.settle.Given as goal

-- what was read ahead begins at the place
abbrev pub invariant-loop-window : goal.invariant-loop-window
invariant-loop-window g l =
    record {
      ahead : IsTrue g.L.LogFile.tells → Buffers (g.L.LogFile.bytes l.log) l.place l.window.1;
      same : IsTrue g.L.LogFile.tells → g.L.LogFile.bytes l.log ≡ g.L.LogFile.bytes l.fn.log;
      no_fault : g.L.LogFile.faults l.log ≡ g.L.LogFile.faults l.fn.log;
    }

abbrev pub decreases-loop-window : goal.decreases-loop-window
decreases-loop-window g l = suc MAX_LINE - length l.window.1
