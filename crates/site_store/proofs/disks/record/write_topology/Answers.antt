use Rattle.std.proofs.Common.{◌∙◌, sym}
use Rattle.site_store.proofs.Appending.{old_or_written}
use Rattle.site_store.proofs.disks.record.write_topology.Goals as goal

pub returns-clause-old_or_new : goal.returns-clause-old_or_new
returns-clause-old_or_new g c tells bytes now =
    let mid = c.make_room.new.self in
    let ready = c.make_room.ensures.state ∙ c.requires.ready in
    let may = rw (sym c.make_room.ensures.kept) at c.requires.next in
    old_or_written _ _ _ mid.value.kept c.args.asked (g.D.Disk.seen mid.journal.disk) (c.make_room.ensures.any_moment tells).now
    (mid.durable tells ready) (mid.journal.settled tells ready).durable may (c.append.ensures.grows tells).now bytes now ((c.append.ensures.any_moment tells ready).now bytes now)
