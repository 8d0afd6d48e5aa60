use Rattle.std.proofs.Common.{inr}
use Rattle.photon_cli.proofs.LogWalk.{long_line}
use Rattle.photon_cli.proofs.log_check.step.next_step.Goals as goal

pub returns-in-Ok-Long-clause-step : goal.returns-in-Ok-Long-clause-step
returns-in-Ok-Long-clause-step g c = λ t rs so_far keeps.
    let next = rw c.in-Ok-Long.field-0-is at (c.in-Ok-Long.ensures.next t) in
    inr (long_line g.K.Record.spelled g.K.Record.is_record g.K.Record.own_id (g.L.LogFile.bytes c.args.tail.now.log) c.args.tail.now.place rs so_far g.K.Record.whys _ _ c.next.new.self.window.0 next c.long_lines.ensures)
