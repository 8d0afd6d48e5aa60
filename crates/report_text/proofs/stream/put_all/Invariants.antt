use Rattle.std.proofs.Common.{◌≤◌, ◌++◌, take, IsTrue}
use Rattle.std.specs.List.{flat_map}
use Rattle.report_text.specs.Stream.{Passed}
use Rattle.report_text.proofs.stream.put_all.Given as goal

-- the parts so far are passed on
abbrev pub invariant-loop-part : goal.invariant-loop-part
invariant-loop-part g l =
    record {
      passed : IsTrue g.K.Sink.tells → Passed (g.K.Sink.held l.fn.sink) (l.fn.buffer.items ++ flat_map (λ p. p.now) (take l.part-index l.parts)) (g.K.Sink.held l.sink) l.buffer.items;
      later : g.K.Sink.faults l.fn.sink ≤ g.K.Sink.faults l.sink;
    }
