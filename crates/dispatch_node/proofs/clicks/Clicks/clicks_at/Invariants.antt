use Rattle.std.proofs.Common.{◌≡◌, ℕ, true, take, All, IsTrue}
use Rattle.dispatch_node.proofs.Words.{has, IsClick, Setting, AreClicksAt, IsLogOf, StartsAt}
use Rattle.dispatch_node.proofs.clicks.Clicks.clicks_at.Given as goal

-- the clicks of the first positions
abbrev pub invariant-loop-position : goal.invariant-loop-position
invariant-loop-position g l =
    record {
      same : IsTrue g.L.LogFile.tells → g.L.LogFile.bytes l.self.tail.log ≡ g.L.LogFile.bytes l.initial.self.tail.log;
      clicks : IsTrue g.L.LogFile.tells → (s : Setting) → IsLogOf (g.L.LogFile.bytes l.initial.self.tail.log) s → ((p : ℕ) → has l.positions p ≡ true → StartsAt s p) → AreClicksAt s (take l.position-index l.positions) l.clicks.items;
      spelled : All IsClick l.clicks.items;
      no_fault : g.L.LogFile.faults l.self.tail.log ≡ g.L.LogFile.faults l.initial.self.tail.log;
    }
