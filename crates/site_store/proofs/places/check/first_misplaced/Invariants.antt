use Rattle.std.proofs.Common.{◌≡◌, ◌≤◌, List, drop, Option, IsTrue}
use Rattle.site_store.proofs.Words.{ClickLine, HoldsLines, end_from, all_kept, IsTold, kept_all, Misplaced}
use Rattle.site_store.proofs.places.check.first_misplaced.Given as goal

abbrev pub invariant-loop-disk : goal.invariant-loop-disk
invariant-loop-disk g l =
    let log = g.L.LogFile in
    record {
      told : IsTrue log.tells → (ls : List ClickLine) → HoldsLines (log.bytes l.fn.log) ls → l.end ≡ end_from 0 ls
          → (told : Option Misplaced) → IsTold ls (all_kept (kept_all (drop l.disk-index l.disks))) told → IsTold ls (all_kept (kept_all l.disks)) told;
      same : IsTrue log.tells → log.bytes l.log ≡ log.bytes l.fn.log;
      count : log.faults l.fn.log ≤ log.faults l.log;
    }
