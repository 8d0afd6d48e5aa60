use Rattle.std.proofs.Common.{take}
use Rattle.site_store.proofs.Words.{KeepsNotes, replicas, outputs, AreReadFrom, AreAmongImages, IsOnlyRead}
use Rattle.output_log.specs.Pairs.{Keeps}
use Rattle.site_store.proofs.Walking.{FirstWith}
use Rattle.site_store.proofs.lent.reading.read_back.Given as goal

abbrev pub invariant-loop-i : goal.invariant-loop-i
invariant-loop-i g l =
    let d = g.D.Disk in
    record {
      walked : FirstWith (IsOnlyRead d.tells d.seen d.image d.since d.faults d.planned d.is_down) l.i l.fn.disks l.disks;
      notes : AreReadFrom d.tells d.seen KeepsNotes (replicas (take l.i l.fn.disks)) l.journals.notes.items;
      pairs : AreReadFrom d.tells d.seen Keeps (outputs (take l.i l.fn.disks)) l.journals.pairs.items;
      notes_left : AreAmongImages d.tells d.seen d.image (replicas (take l.i l.fn.disks));
      pairs_left : AreAmongImages d.tells d.seen d.image (outputs (take l.i l.fn.disks));
    }
