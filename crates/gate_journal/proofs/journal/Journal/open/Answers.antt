use Rattle.gate_journal.proofs.Growth.{grows_opened}
use Rattle.gate_journal.proofs.journal.Journal.open.Goals as goal

pub returns-in-Ok-open_disk-clause-ok_grows : goal.returns-in-Ok-open_disk-clause-ok_grows
returns-in-Ok-open_disk-clause-ok_grows g c tells =
    let d = g.D.Disk in
    grows_opened d.image d.since c.args.disk c.open_disk.new.disk (c.open_disk.ensures.any_moment tells)
