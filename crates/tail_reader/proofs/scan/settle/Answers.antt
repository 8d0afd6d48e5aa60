use Rattle.std.proofs.Common.{◌∙◌, arith}
use Rattle.tail_reader.proofs.Windows.{buffers_more}
use Rattle.tail_reader.proofs.scan.settle.Goals as goal

pub loop-window-preserved : goal.loop-window-preserved
loop-window-preserved g c =
    record {
      ahead = λ t. rw (c.read_more.ensures.same t) (buffers_more (g.L.LogFile.bytes c.loop-window.log) c.args.place c.loop-window.window.1 c.read_more.new.self.1 _ c.in_ok-n.n (c.loop-window.invariant.ahead t) (c.in_ok-n.ensures.bytes t).0 (c.in_ok-n.ensures.bytes t).1 (omega arith));
      same = λ t. c.read_more.ensures.same t ∙ c.loop-window.invariant.same t;
      no_fault = c.in_ok-n.ensures.tally ∙ c.loop-window.invariant.no_fault;
    }
