use Rattle.std.proofs.Common.{◌≡◌, ◌≤◌, ℕ, List, length, vec_capacity, IsTrue, Some}
use Rattle.site_run.proofs.Words.{Each}
use Rattle.site_run.specs.Logs.{name_of}
use Rattle.site_run.proofs.sources.open_times.Given as goal

abbrev pub invariant-loop : goal.invariant-loop
invariant-loop g l =
    let bytes = g.F.Source.bytes in
    record {
      count : length l.logs.items ≡ l.counter;
      room : l.fn.times ≤ vec_capacity l.logs;
      opened : IsTrue g.F.Log.LogFile.tells → Each (λ log. bytes l.fn.files (name_of l.fn.names l.fn.log) ≡ Some (g.F.Log.LogFile.bytes log)) l.logs.items;
      same : IsTrue g.F.Log.LogFile.tells → (n : List ℕ) → bytes l.files n ≡ bytes l.fn.files n;
      faults : g.F.Source.faults l.fn.files ≤ g.F.Source.faults l.files;
    }
