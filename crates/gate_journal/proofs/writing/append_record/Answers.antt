use Rattle.gate_journal.proofs.Append.{behind_gate, first_step, second_step, at_gate, after_append, settled_after}
use Rattle.gate_journal.proofs.writing.append_record.Goals as goal

pub write_and_sync-requires-clause-start : goal.write_and_sync-requires-clause-start
write_and_sync-requires-clause-start g c tells =
    let d = g.D.Disk in
    behind_gate d.seen d.image d.since c.args.disk.now c.args.disk.now c.args.disk.now c.args.gate c.args.frame.now c.body-body.ensures.fits (c.requires.settled tells) c.body-body.result.now c.body-body.ensures.bytes

pub returns-in_err-write_and_sync-clause-any_moment : goal.returns-in_err-write_and_sync-clause-any_moment
returns-in_err-write_and_sync-clause-any_moment g c tells =
    let d = g.D.Disk in
    first_step d.seen d.image d.since c.args.disk.now c.write_and_sync.new.disk c.write_and_sync.new.disk c.args.gate c.args.frame.now c.body-body.ensures.fits (c.requires.settled tells) c.body-body.result.now c.body-body.ensures.bytes (c.write_and_sync.ensures.any_moment tells)

pub write_and_sync-requires-2-clause-start : goal.write_and_sync-requires-2-clause-start
write_and_sync-requires-2-clause-start g c tells =
    let d = g.D.Disk in
    at_gate d.seen d.image d.since c.args.disk.now c.write_and_sync.new.disk c.write_and_sync.new.disk c.args.gate c.args.frame.now c.body-body.ensures.fits (c.requires.settled tells) c.body-body.result.now c.body-body.ensures.bytes (c.in_ok-write_and_sync.ensures.written tells)

pub returns-in_err-write_and_sync-2-clause-any_moment : goal.returns-in_err-write_and_sync-2-clause-any_moment
returns-in_err-write_and_sync-2-clause-any_moment g c tells =
    let d = g.D.Disk in
    second_step d.seen d.image d.since c.args.disk.now c.write_and_sync.new.disk c.write_and_sync-2.new.disk c.args.gate c.args.frame.now c.body-body.ensures.fits (c.requires.settled tells) c.body-body.result.now c.body-body.ensures.bytes
    (c.in_ok-write_and_sync.ensures.written tells) (c.write_and_sync.ensures.any_moment tells) c.gate-opened.result.now c.gate-opened.ensures (c.write_and_sync-2.ensures.any_moment tells)

pub returns-clause-any_moment : goal.returns-clause-any_moment
returns-clause-any_moment g c tells =
    let d = g.D.Disk in
    second_step d.seen d.image d.since c.args.disk.now c.write_and_sync.new.disk c.write_and_sync-2.new.disk c.args.gate c.args.frame.now c.body-body.ensures.fits (c.requires.settled tells) c.body-body.result.now c.body-body.ensures.bytes
    (c.in_ok-write_and_sync.ensures.written tells) (c.write_and_sync.ensures.any_moment tells) c.gate-opened.result.now c.gate-opened.ensures (c.write_and_sync-2.ensures.any_moment tells)

pub returns-clause-settled : goal.returns-clause-settled
returns-clause-settled g c tells =
    let d = g.D.Disk in
    settled_after d.seen d.image d.since c.args.disk.now c.write_and_sync.new.disk c.write_and_sync-2.new.disk c.args.gate c.args.frame.now c.body-body.ensures.fits (c.requires.settled tells) c.body-body.result.now c.body-body.ensures.bytes
    (c.in_ok-write_and_sync.ensures.written tells) c.gate-opened.result.now c.gate-opened.ensures (c.in_ok-write_and_sync-2.ensures.written tells) (c.in_ok-write_and_sync-2.ensures.durable tells)

pub returns-clause-records : goal.returns-clause-records
returns-clause-records g c tells =
    let d = g.D.Disk in
    after_append d.seen d.image d.since c.args.disk.now c.write_and_sync.new.disk c.write_and_sync-2.new.disk c.args.gate c.args.frame.now c.body-body.ensures.fits (c.requires.settled tells) c.body-body.result.now c.body-body.ensures.bytes
    (c.in_ok-write_and_sync.ensures.written tells) c.gate-opened.result.now c.gate-opened.ensures (c.in_ok-write_and_sync-2.ensures.written tells)
