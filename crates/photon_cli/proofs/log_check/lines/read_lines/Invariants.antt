use Rattle.std.proofs.Common.{◌≡◌, ◌≤◌, List, IsTrue}
use Rattle.photon_cli.proofs.CheckedLogs.{Before}
use Rattle.photon_cli.proofs.log_check.lines.read_lines.Given as goal

-- the lines before the place are those of some records
abbrev pub invariant-loop-count : goal.invariant-loop-count
invariant-loop-count g l =
    record {
      read : IsTrue g.L.LogFile.tells → (rs : List g.row.K.Denot) × Before g.K.Record.spelled g.K.Record.is_record g.K.Record.own_id l.keep (g.L.LogFile.bytes l.fn.tail.log) l.tail.place l.check.places l.count l.ids.items rs;
      same : IsTrue g.L.LogFile.tells → g.L.LogFile.bytes l.tail.log ≡ g.L.LogFile.bytes l.fn.tail.log;
      later : g.L.LogFile.faults l.fn.tail.log ≤ g.L.LogFile.faults l.tail.log;
    }
