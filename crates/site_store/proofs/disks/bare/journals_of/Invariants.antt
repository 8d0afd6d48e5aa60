use Rattle.std.proofs.Common.{◌≡◌, ◌+◌, ◌≤◌, ◌++◌, length, flat_map, vec_capacity}
use Rattle.site_store.proofs.Words.{into_iter_items, into_iter_len, all_lent, lent_all, kept_all, notes_at, pairs_at}
use Rattle.site_store.proofs.disks.bare.journals_of.Given as goal

abbrev pub invariant-loop-one : goal.invariant-loop-one
invariant-loop-one g l =
    let all = l.fn.opened.disks.items in
    let left = into_iter_items l.disks in
    record {
      notes : l.journals.notes.items ++ flat_map (λ d. notes_at d.kept) (kept_all left) ≡ flat_map (λ d. notes_at d.kept) (kept_all all);
      pairs : l.journals.pairs.items ++ flat_map (λ d. pairs_at d.kept) (kept_all left) ≡ flat_map (λ d. pairs_at d.kept) (kept_all all);
      lent : all_lent l.lent.items ++ lent_all left ≡ lent_all all;
      notes_room : length l.journals.notes.items + length left ≤ vec_capacity l.journals.notes;
      pairs_room : length l.journals.pairs.items + length left ≤ vec_capacity l.journals.pairs;
      room : length l.lent.items + length left ≤ vec_capacity l.lent;
      count : length l.lent.items + length left ≡ length all;
    }

abbrev pub decreases-loop-one : goal.decreases-loop-one
decreases-loop-one g l = into_iter_len l.disks
