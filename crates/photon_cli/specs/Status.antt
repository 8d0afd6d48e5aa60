-- The exit status, by the counts of faults and by what went out.
use Rattle.std.specs.Prelude.{ℕ, ◌≡◌, ◌≢◌, ◌⊎◌, List, Bool, IsTrue}
use Rattle.photon_cli.specs.Terms.{Counts, RunFault, status_of}

-- It is 0, 1 or that of a fault. The counts of faults of the files and of the output never fall; 4 comes only where the first rose, and 5
-- where the second did. At any status but 0, 1 and 5 nothing goes out.
pub record IsAnswered (sinks : Bool) (files_old files_new out_old out_new : ℕ) (old new : List ℕ) (status : ℕ) : Type 0 where
  pub statuses : (status ≡ 0) ⊎ ((status ≡ 1) ⊎ ((f : RunFault) × (status ≡ status_of f)))
  pub read : Counts files_old files_new (status ≡ 4)
  pub write : Counts out_old out_new (status ≡ 5)
  pub quiet : IsTrue sinks → status ≢ 0 → status ≢ 1 → status ≢ 5 → new ≡ old
