use Rattle.std.proofs.Common.{get_or, subst}
use Rattle.site_store.proofs.Words.{IsOnlyRead, IsReadAs, IsAnImage, KeepsNotes, KeepsPairs, LentDisk, is_replica, is_output}
use Rattle.site_store.proofs.Walking.{first_at, first_next, next_all}
use Rattle.site_store.proofs.Readings.{untouched, of_one, image_of_one, read_more, left_more}
use Rattle.site_store.proofs.lent.reading.read_back.Goals as goal

pub returns-in-Err-clause-same : goal.returns-in-Err-clause-same
returns-in-Err-clause-same g c =
    next_all _ (untouched _ _ _ _ _ _ _ g.met.D.Disk.starts) _ _ _ c.index-disks-i.result c.read_one.new.lent c.loop-i.invariant.walked c.loop-i-test.true c.read_one.ensures.same

pub returns-in_default-clause-same : goal.returns-in_default-clause-same
returns-in_default-clause-same g c =
    next_all _ (untouched _ _ _ _ _ _ _ g.met.D.Disk.starts) _ _ _ c.index-disks-i.result c.read_one.new.lent c.loop-i.invariant.walked c.loop-i-test.true c.read_one.ensures.same

pub loop-i-preserved : goal.loop-i-preserved
loop-i-preserved g c =
    let d = g.D.Disk in
    let R = IsOnlyRead d.tells d.seen d.image d.since d.faults d.planned d.is_down in
    let disks = c.args.disks.now in
    let at = c.loop-i in
    let old = c.index-disks-i.result in
    let same = first_at R at.i disks at.disks old at.invariant.walked in
    let is = subst (λ (x : LentDisk g.row.D.Denot). IsReadAs d.tells d.seen x c.in-Ok.read) same c.in-Ok.ensures.read in
    let one = of_one d.tells d.seen (get_or disks at.i old) c.in-Ok.read is in
    let left = image_of_one d.tells d.seen d.image _ c.in-Ok.read is (subst (λ (x : LentDisk g.row.D.Denot). IsAnImage d.tells d.seen d.image x c.in-Ok.read) same c.in-Ok.ensures.left) in
    record {
      walked = first_next R at.i disks at.disks old c.read_one.new.lent at.invariant.walked c.loop-i-test.true c.read_one.ensures.same;
      notes = read_more d.tells d.seen KeepsNotes (λ x. is_replica x.name) disks at.i old at.journals.notes.items _ _ c.loop-i-test.true at.invariant.notes one.0 c.in-Ok-put.ensures.notes;
      pairs = read_more d.tells d.seen KeepsPairs (λ x. is_output x.name) disks at.i old at.journals.pairs.items _ _ c.loop-i-test.true at.invariant.pairs one.1 c.in-Ok-put.ensures.pairs;
      notes_left = left_more d.tells d.seen d.image (λ x. is_replica x.name) disks at.i old c.loop-i-test.true at.invariant.notes_left left.0;
      pairs_left = left_more d.tells d.seen d.image (λ x. is_output x.name) disks at.i old c.loop-i-test.true at.invariant.pairs_left left.1;
    }
