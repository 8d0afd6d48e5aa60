use Rattle.std.proofs.Common.{◌≡◌, ◌≤◌, IsTrue}
use Rattle.site_store.proofs.Words.{NoneBetween, IsBehindFeed}
use Rattle.site_store.proofs.places.feeds.floor_below.Given as goal

-- no line feed stands between here and the place
abbrev pub invariant-loop-to : goal.invariant-loop-to
invariant-loop-to g l =
    record {
      none : IsTrue g.L.LogFile.tells → NoneBetween (IsBehindFeed (g.L.LogFile.bytes l.fn.log)) l.to l.at;
      below : l.to ≤ l.at;
      same : IsTrue g.L.LogFile.tells → g.L.LogFile.bytes l.log ≡ g.L.LogFile.bytes l.fn.log;
      later : g.L.LogFile.faults l.fn.log ≤ g.L.LogFile.faults l.log;
    }

abbrev pub decreases-loop-to : goal.decreases-loop-to
decreases-loop-to g l = l.to
