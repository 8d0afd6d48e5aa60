use Rattle.dispatch_node.proofs.Reading.{line_taken, none_taken}
use Rattle.dispatch_node.proofs.clicks.Clicks.line_at.Goals as goal

pub returns-in-Line-clause-line : goal.returns-in-Line-clause-line
returns-in-Line-clause-line g c tells s is readable =
    let log = g.L.LogFile.bytes c.args.self.now.tail.log in
    line_taken log s c.args.place c.in-Line.place c.in-Line.end c.in_ok-place.field-0 c.next_at.new.self.tail.window.0 c.taken.result is readable (c.in_ok-place.ensures.next tells) c.in-Line.is c.taken.ensures.line

pub returns-in-Long-clause-line : goal.returns-in-Long-clause-line
returns-in-Long-clause-line g c tells s is readable =
    let log = g.L.LogFile.bytes c.args.self.now.tail.log in
    none_taken log s c.args.place c.in_ok-place.field-0 c.next_at.new.self.tail.window.0 is readable (c.in_ok-place.ensures.next tells) c.in-Long.is
