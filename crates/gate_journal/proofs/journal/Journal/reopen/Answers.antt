use Rattle.gate_journal.proofs.Growth.{grows_opened}
use Rattle.gate_journal.proofs.journal.Journal.reopen.Goals as goal

pub returns-clause-grows : goal.returns-clause-grows
returns-clause-grows g c tells =
    let d = g.D.Disk in
    grows_opened d.image d.since c.args.self.now.disk c.reopen_disk.new.disk (c.reopen_disk.ensures.any_moment tells)
