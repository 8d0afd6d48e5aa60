use Rattle.std.proofs.Common.{◌≡◌, List, IsTrue}
use Rattle.joiner_node.proofs.Words.{HasRead, Query}
use Rattle.joiner_node.proofs.queries.Queries.look_up.Given as goal

-- whatever queries the log holds, some of them were read
abbrev pub invariant-lines : goal.invariant-lines
invariant-lines g l = record {
  reads : IsTrue g.L.LogFile.tells → (qs : List Query) → HasRead l.fn.self qs → HasRead l.self qs;
  no_fault : g.L.LogFile.faults l.self.store.tail.log ≡ g.L.LogFile.faults l.fn.self.store.tail.log;
}
