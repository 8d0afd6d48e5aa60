use Rattle.std.proofs.Common.{◌+◌, List, ℕ, length, refl, sym, ap, ◌∙◌, arith}
use Rattle.tail_reader.proofs.Windows.{buffers_first, buffers_drop, line_fits, passed_more, passed_line, passed_all, past_limit}
use Rattle.tail_reader.proofs.scan.skip.Goals as goal

pub returns-in-Some-clause-found : goal.returns-in-Some-clause-found
returns-in-Some-clause-found g c = λ t.
    let log = g.L.LogFile.bytes c.loop-at.log in
    let read = c.in_ok-n.ensures.bytes t in
    let ahead = buffers_first log c.loop-at.at c.in_ok-n.n c.loop-at.window.1 c.read_more.new.self.1 c.loop-at.invariant.cleared read.0 read.1 in
    rw (sym (c.loop-at.invariant.same t)) (passed_line log c.args.from c.loop-at.at c.in-Some.len (c.loop-at.at + c.in-Some.len + 1) c.read_more.new.self.1 (c.loop-at.invariant.front t) ahead c.in-Some.ensures.found refl)

pub returns-in-Some-clause-ahead : goal.returns-in-Some-clause-ahead
returns-in-Some-clause-ahead g c = λ t.
    let log = g.L.LogFile.bytes c.loop-at.log in
    let read = c.in_ok-n.ensures.bytes t in
    let ahead = buffers_first log c.loop-at.at c.in_ok-n.n c.loop-at.window.1 c.read_more.new.self.1 c.loop-at.invariant.cleared read.0 read.1 in
    rw (sym (c.loop-at.invariant.same t)) (buffers_drop log c.loop-at.at (c.loop-at.at + c.in-Some.len + 1) (c.in-Some.len + 1) c.read_more.new.self.1 c.take_line.new.self.1 ahead c.take_line.ensures.ahead (line_fits c.in-Some.len c.read_more.new.self.1 c.in-Some.ensures.found) (omega arith))

pub loop-at-preserved : goal.loop-at-preserved
loop-at-preserved g c =
    let small = c.in_ok-n.ensures.small in
    let len = c.in_ok-n.ensures.len in
    record {
      front = λ t.
          let log = g.L.LogFile.bytes c.loop-at.log in
          let read = c.in_ok-n.ensures.bytes t in
          let ahead = buffers_first log c.loop-at.at c.in_ok-n.n c.loop-at.window.1 c.read_more.new.self.1 c.loop-at.invariant.cleared read.0 read.1 in
          let empty = ap length c.loop-at.invariant.cleared in
          rw (c.read_more.ensures.same t) (passed_more log c.args.from c.loop-at.at (c.loop-at.at + c.in_ok-n.n) c.read_more.new.self.1 (c.loop-at.invariant.front t) ahead c.in_default.ensures.none (omega (arith, len, empty)));
      cleared = ap (λ (v : List ℕ × List ℕ). v.1) c.clear-in-loop-at.ensures;
      low = omega (arith, small);
      same = λ t. c.read_more.ensures.same t ∙ c.loop-at.invariant.same t;
      no_fault = c.in_ok-n.ensures.tally ∙ c.loop-at.invariant.no_fault;
    }

pub returns-clause-none : goal.returns-clause-none
returns-clause-none g c = λ t.
    rw (sym (c.loop-at.invariant.same t)) (passed_all (g.L.LogFile.bytes c.loop-at.log) c.args.from c.loop-at.at (c.loop-at.invariant.front t) (past_limit (g.L.LogFile.bytes c.loop-at.log) c.loop-at.at (omega arith)))
