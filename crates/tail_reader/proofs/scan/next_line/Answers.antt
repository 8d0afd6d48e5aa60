use Rattle.std.proofs.Common.{◌+◌, List, ℕ, [], refl, sym, subst, arith}
use Rattle.tail_reader.specs.Buffered.{Buffers}
use Rattle.tail_reader.proofs.Windows.{buffers_drop, line_fits, is_line, is_long, is_long_behind, is_end, is_end_behind, past_limit}
use Rattle.tail_reader.proofs.scan.next_line.Goals as goal

pub returns-then-place-ge-MAX_LOG-clause-next : goal.returns-then-place-ge-MAX_LOG-clause-next
returns-then-place-ge-MAX_LOG-clause-next g c = λ t. is_end (g.L.LogFile.bytes c.args.log.now) c.args.place [] (past_limit (g.L.LogFile.bytes c.args.log.now) c.args.place (omega arith))

pub returns-then-len-gt-MAX_LINE-clause-next : goal.returns-then-len-gt-MAX_LINE-clause-next
returns-then-len-gt-MAX_LINE-clause-next g c = λ t.
    let found = rw c.in-Some.is at c.in_ok-found.ensures.found in
    is_long (g.L.LogFile.bytes c.args.log.now) c.args.place (c.args.place + c.in-Some.len + 1) c.in-Some.len c.settle.new.window.1 [] (c.settle.ensures.ahead t) found c.if-len-gt-MAX_LINE.true refl

pub returns-then-len-gt-MAX_LINE-clause-ahead : goal.returns-then-len-gt-MAX_LINE-clause-ahead
returns-then-len-gt-MAX_LINE-clause-ahead g c = λ t.
    let found = rw c.in-Some.is at c.in_ok-found.ensures.found in
    buffers_drop (g.L.LogFile.bytes c.args.log.now) c.args.place (c.args.place + c.in-Some.len + 1) (c.in-Some.len + 1) c.settle.new.window.1 c.take_line.new.self.1 (c.settle.ensures.ahead t) c.take_line.ensures.ahead (line_fits c.in-Some.len c.settle.new.window.1 found) (omega arith)

pub returns-else-len-gt-MAX_LINE-clause-next : goal.returns-else-len-gt-MAX_LINE-clause-next
returns-else-len-gt-MAX_LINE-clause-next g c = λ t.
    let found = rw c.in-Some.is at c.in_ok-found.ensures.found in
    is_line (g.L.LogFile.bytes c.args.log.now) c.args.place (c.args.place + c.in-Some.len + 1) c.in-Some.len c.settle.new.window.1 c.take_line.new.self.0 (c.settle.ensures.ahead t) found c.take_line.ensures.line c.if-len-gt-MAX_LINE.false refl

pub returns-else-len-gt-MAX_LINE-clause-ahead : goal.returns-else-len-gt-MAX_LINE-clause-ahead
returns-else-len-gt-MAX_LINE-clause-ahead g c = λ t.
    let found = rw c.in-Some.is at c.in_ok-found.ensures.found in
    buffers_drop (g.L.LogFile.bytes c.args.log.now) c.args.place (c.args.place + c.in-Some.len + 1) (c.in-Some.len + 1) c.settle.new.window.1 c.take_line.new.self.1 (c.settle.ensures.ahead t) c.take_line.ensures.ahead (line_fits c.in-Some.len c.settle.new.window.1 found) (omega arith)

pub returns-in-Some-behind-clause-next : goal.returns-in-Some-behind-clause-next
returns-in-Some-behind-clause-next g c = λ t.
    let none = rw c.in-None.is at (c.in_ok-found.ensures.none t) in
    let found = rw c.in-Some-behind.is at (c.in_ok-behind-in-None.ensures.found t) in
    let ahead = subst (λ (b : List ℕ). Buffers b c.args.place c.settle.new.window.1) (sym (c.settle.ensures.same t)) (c.settle.ensures.ahead t) in
    rw (sym (c.settle.ensures.same t)) (is_long_behind (g.L.LogFile.bytes c.settle.new.log) c.args.place _ c.in-Some-behind.end c.settle.new.window.1 [] ahead none found (omega arith) (omega arith))

pub returns-in-None-behind-clause-next : goal.returns-in-None-behind-clause-next
returns-in-None-behind-clause-next g c = λ t.
    let none = rw c.in-None.is at (c.in_ok-found.ensures.none t) in
    let far = rw c.in-None-behind.is at (c.in_ok-behind-in-None.ensures.none t) in
    let ahead = subst (λ (b : List ℕ). Buffers b c.args.place c.settle.new.window.1) (sym (c.settle.ensures.same t)) (c.settle.ensures.ahead t) in
    rw (sym (c.settle.ensures.same t)) (is_end_behind (g.L.LogFile.bytes c.settle.new.log) c.args.place _ c.settle.new.window.1 [] ahead none far (omega arith))
