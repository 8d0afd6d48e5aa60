use Rattle.std.proofs.Common.{◌≡◌, ◌≤◌, ◌-◌, IsTrue}
use Rattle.site_store.proofs.Words.{IsFloorFrom, IsBehindFeed}
use Rattle.site_store.proofs.places.feeds.floor_from.Given as goal

-- the floor of what was read
abbrev pub invariant-loop-at : goal.invariant-loop-at
invariant-loop-at g l =
    record {
      floor : IsTrue g.L.LogFile.tells → IsFloorFrom (IsBehindFeed (g.L.LogFile.bytes l.fn.log)) l.from l.at l.floor;
      low : l.from ≤ l.at;
      high : l.at ≤ l.to;
      same : IsTrue g.L.LogFile.tells → g.L.LogFile.bytes l.log ≡ g.L.LogFile.bytes l.fn.log;
      later : g.L.LogFile.faults l.fn.log ≤ g.L.LogFile.faults l.log;
    }

abbrev pub decreases-loop-at : goal.decreases-loop-at
decreases-loop-at g l = l.to - l.at
