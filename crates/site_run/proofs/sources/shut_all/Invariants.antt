use Rattle.std.proofs.Common.{◌≡◌, ◌⊎◌, ◌≤◌, ℕ, List, IsTrue, vec_len}
use Rattle.site_run.proofs.Words.{Mem, Rose}
use Rattle.site_run.proofs.sources.shut_all.Given as goal

abbrev pub invariant-loop-log : goal.invariant-loop-log
invariant-loop-log g l =
    let faults = g.F.Source.faults in
    record {
      rose : (log : _) → Mem log l.fn.logs.items → 1 ≤ g.F.Log.LogFile.faults log → Mem log l.logs.items ⊎ Rose (faults l.fn.files) (faults l.files);
      same : IsTrue g.F.Log.LogFile.tells → (n : List ℕ) → g.F.Source.bytes l.files n ≡ g.F.Source.bytes l.fn.files n;
      count : faults l.fn.files ≤ faults l.files;
    }

abbrev pub decreases-loop-log : goal.decreases-loop-log
decreases-loop-log g l = vec_len l.logs
