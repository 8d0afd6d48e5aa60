use Rattle.std.proofs.Common.{◌≡◌, List, Option, IsTrue}
use Rattle.event_store.proofs.Words.{Query, AreRead, Mark, Knows, IsCache}
use Rattle.event_store.proofs.search.read_ahead.Given as goal

-- the tail stands behind lines of the log
abbrev pub invariant-lines : goal.invariant-lines
invariant-lines g l = record {
  same : IsTrue g.L.LogFile.tells → g.L.LogFile.bytes l.tail.log ≡ g.L.LogFile.bytes l.fn.tail.log;
  no_fault : g.L.LogFile.faults l.tail.log ≡ g.L.LogFile.faults l.fn.tail.log;
  most : l.recent.records.cap ≡ l.fn.recent.records.cap;
  cached : IsTrue g.L.LogFile.tells → (front lines : List (Option Query)) (marks : List Mark) → AreRead (g.L.LogFile.bytes l.fn.tail.log) l.start front → Knows (g.L.LogFile.bytes l.fn.tail.log) l.end l.index lines marks → IsCache l.fn.recent.records.entries lines → ((now : List (Option Query)) × AreRead (g.L.LogFile.bytes l.fn.tail.log) l.tail.place now) × IsCache l.recent.records.entries lines;
}
