use Rattle.std.proofs.Common.{◌≤◌, ◌++◌, take, IsTrue}
use Rattle.std.specs.List.{flat_map}
use Rattle.log_records.specs.Report.{line_text}
use Rattle.report_text.specs.Stream.{Passed}
use Rattle.report_text.proofs.report.put_lines.Given as goal

-- the lines so far are passed on
abbrev pub invariant-loop-line : goal.invariant-loop-line
invariant-loop-line g l =
    record {
      passed : IsTrue g.K.Sink.tells → Passed (g.K.Sink.held l.fn.sink) (l.fn.buffer.items ++ flat_map line_text (take l.line-index l.lines)) (g.K.Sink.held l.sink) l.buffer.items;
      later : g.K.Sink.faults l.fn.sink ≤ g.K.Sink.faults l.sink;
    }
