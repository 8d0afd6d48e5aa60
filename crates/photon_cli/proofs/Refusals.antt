-- Refused lines, as faults.
use Rattle.std.proofs.Common.{◌≡◌, ℕ, Option, arith}
use Rattle.photon_cli.proofs.Words.{IsSomeAnd, BadLine, Why, LogName, RunFault, IsLogFault}
use Rattle.run_fault.specs.declared.fault.RunFault.TheVariants as fault

pub within : {A : Type 0} (o : Option A) (P Q : A → Type 0) → ((x : A) → P x → Q x) → IsSomeAnd o P → IsSomeAnd o Q
within k e m f h = grind arith

-- a refused line is of the log that was read
pub of_its_log : (P : LogName → BadLine → Type 0) (own log : LogName) (f : RunFault) (line : ℕ) (w : Why) → IsLogFault own f → (f ≡ fault.Refused own line w → P own (record { line = line; why = w })) → f ≡ fault.Refused log line w → P log (record { line = line; why = w })
of_its_log P own log f line w k told h = grind arith
