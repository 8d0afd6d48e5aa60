use Rattle.std.proofs.Common.{◌≡◌, ◌≤◌, List, take, IsTrue}
use Rattle.site_store.proofs.Words.{Each, Retry, ClickLine, HoldsLines, end_from, Fits, on_disk}
use Rattle.site_store.proofs.places.check.misplaced_pending.Given as goal

-- the first positions fit
abbrev pub invariant-loop-position : goal.invariant-loop-position
invariant-loop-position g l =
    record {
      fit : IsTrue g.L.LogFile.tells → (ls : List ClickLine) → HoldsLines (g.L.LogFile.bytes l.initial.log) ls → l.end ≡ end_from 0 ls → Each (Fits ls) (on_disk (Retry l.site) (take l.position-index l.pending));
      same : IsTrue g.L.LogFile.tells → g.L.LogFile.bytes l.log ≡ g.L.LogFile.bytes l.initial.log;
      later : g.L.LogFile.faults l.initial.log ≤ g.L.LogFile.faults l.log;
    }
