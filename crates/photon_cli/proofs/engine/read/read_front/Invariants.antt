use Rattle.std.proofs.Common.{◌≡◌, ◌-◌, ◌≤◌, take, length, IsTrue}
use Rattle.photon_cli.proofs.engine.read.read_front.Given as goal

-- the bytes so far are the log's front
abbrev pub invariant-pieces : goal.invariant-pieces
invariant-pieces g l = record {
  front : IsTrue g.L.LogFile.tells → l.bytes.items ≡ take (length l.bytes.items) (g.L.LogFile.bytes l.fn.log);
  fits : length l.bytes.items ≤ l.most;
  same : IsTrue g.L.LogFile.tells → g.L.LogFile.bytes l.log ≡ g.L.LogFile.bytes l.fn.log;
  later : g.L.LogFile.faults l.fn.log ≤ g.L.LogFile.faults l.log;
}

abbrev pub decreases-pieces : goal.decreases-pieces
decreases-pieces g l = l.most - length l.bytes.items
