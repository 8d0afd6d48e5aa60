-- The record of a change that may come next is one.
use Rattle.std.proofs.Common.{◌≡◌, ℕ, ◌≤◌, List, [], ◌∷◌, ◌++◌, length, refl, ap, ◌∙◌, arith, Ok, Some}
use Rattle.std.proofs.lemmas.Nat.{from_be_bytes-to_be_bytes_8}
use Rattle.gate_journal.specs.Fold.{folds_to}
use Rattle.gate_journal.specs.FoldLaws as folds
use Rattle.retry_log.specs.declared.changing.Change.{Change}
use Rattle.retry_log.specs.declared.changing.Change.TheVariants.{Park, Settle}
use Rattle.retry_log.specs.Pending.{record_of, change_in, changed, retries, MayCome, after, places_of}

read_again : (change : Change) (pending : List ℕ) → MayCome pending change → change_in (record_of change) ≡ Some change
read_again (Park position) pending may = ap (λ (n : ℕ). Some (Park n)) (from_be_bytes-to_be_bytes_8 position may.1)
read_again (Settle position) pending may = ap (λ (n : ℕ). Some (Settle n)) (from_be_bytes-to_be_bytes_8 position may.1)

makes : (pending : List ℕ) (change : Change) → MayCome pending change → changed pending (Some change) ≡ Some (after pending change)
makes pending (Park position) may = rw may.0 refl
makes pending (Settle position) may = rw may.0 refl

pub comes_next : (pending : List ℕ) (change : Change) (ps : List (List ℕ)) → MayCome pending change → folds_to retries pending (Ok ps) → folds_to retries (after pending change) (Ok (ps ++ record_of change ∷ []))
comes_next pending change ps may kept =
    folds.comes_next retries ps pending (after pending change) (record_of change) kept (ap (changed pending) (read_again change pending may) ∙ makes pending change may)

pub fits : (pending : List ℕ) (change : Change) → MayCome pending change → length (record_of change) ≤ 9
fits pending (Park position) may = omega arith
fits pending (Settle position) may = omega arith

pub one_place : (change : Change) → places_of change ≤ 1
one_place (Park position) = omega arith
one_place (Settle position) = omega arith
