use Rattle.std.proofs.Common.{◌≡◌, ◌≤◌, List, Option, None, IsTrue}
use Rattle.event_store.proofs.Words.{Query, AreRead, found}
use Rattle.event_store.proofs.Looking.{Lacking}
use Rattle.event_store.proofs.scan.scan.Given as goal

-- no line so far has the id
abbrev pub invariant-lines : goal.invariant-lines
invariant-lines g l = record {
  same : IsTrue g.L.LogFile.tells → g.L.LogFile.bytes l.tail.log ≡ g.L.LogFile.bytes l.fn.tail.log;
  no_fault : g.L.LogFile.faults l.tail.log ≡ g.L.LogFile.faults l.fn.tail.log;
  lacking : IsTrue g.L.LogFile.tells → (front lines : List (Option Query)) → AreRead (g.L.LogFile.bytes l.fn.tail.log) l.start front → found front l.id ≡ None → AreRead (g.L.LogFile.bytes l.fn.tail.log) l.end lines → (l.least ≤ l.tail.place) × Lacking (g.L.LogFile.bytes l.fn.tail.log) l.tail.place l.id;
}
