use Rattle.std.proofs.Common.{◌≡◌, ◌≤◌, ◌-◌, ◌++◌, length, take, IsTrue}
use Rattle.report_text.proofs.stream.write_all.Given as goal

-- what was written so far is a front of the bytes
abbrev pub invariant-loop-done : goal.invariant-loop-done
invariant-loop-done g l =
    record {
      within : l.done ≤ length l.bytes;
      held : IsTrue g.K.Sink.tells → g.K.Sink.held l.sink ≡ g.K.Sink.held l.fn.sink ++ take l.done l.bytes;
      later : g.K.Sink.faults l.fn.sink ≤ g.K.Sink.faults l.sink;
    }

abbrev pub decreases-loop-done : goal.decreases-loop-done
decreases-loop-done g l = length l.bytes - l.done
