use Rattle.std.proofs.Common.{rules, ◌∙◌, ap, length, length-append, arith}
use Rattle.site_store.proofs.Words.{into_iter_items, notes_at, pairs_at, notes_in, pairs_in}
use Rattle.site_store.proofs.Parted.{records_moved, disk_moved, all_moved, all_out, few_notes, few_pairs}
use Rattle.site_store.proofs.disks.bare.journals_of.Goals as goal

pub loop-one-preserved : goal.loop-one-preserved
loop-one-preserved g c =
    let i = c.loop-one.invariant in
    let cut = c.in-Some.ensures.items in
    let left = ap length cut in
    let one = c.apart-disk.ensures in
    let read = c.apart-disk.result.1 in
    let notes = ap length c.put.ensures.notes ∙ length-append c.loop-one.journals.notes.items (notes_in read) in
    let pairs = ap length c.put.ensures.pairs ∙ length-append c.loop-one.journals.pairs.items (pairs_in read) in
    let disks = ap length c.push_reserved.ensures.items in
    record {
      notes = records_moved (λ d. notes_at d.kept) _ _ _ _ _ _ _ c.put.ensures.notes one.notes cut i.notes;
      pairs = records_moved (λ d. pairs_at d.kept) _ _ _ _ _ _ _ c.put.ensures.pairs one.pairs cut i.pairs;
      lent = disk_moved _ _ _ _ _ _ _ c.push_reserved.ensures.items one.disk cut i.lent;
      notes_room = omega (arith, i.notes_room, left, notes, few_notes read, c.put.ensures.notes_room);
      pairs_room = omega (arith, i.pairs_room, left, pairs, few_pairs read, c.put.ensures.pairs_room);
      room = omega (arith, i.room, left, disks, c.push_reserved.ensures.capacity);
      count = omega (arith, i.count, left, disks);
    }

pub returns-clause-notes : goal.returns-clause-notes
returns-clause-notes g c = all_moved (λ d. notes_at d.kept) _ _ (into_iter_items c.loop-one.disks) (search rules) c.loop-one.invariant.notes

pub returns-clause-pairs : goal.returns-clause-pairs
returns-clause-pairs g c = all_moved (λ d. pairs_at d.kept) _ _ (into_iter_items c.loop-one.disks) (search rules) c.loop-one.invariant.pairs

pub returns-clause-disks : goal.returns-clause-disks
returns-clause-disks g c = all_out _ _ (into_iter_items c.loop-one.disks) (search rules) c.loop-one.invariant.lent
