-- A kind whose records are taken one by one.
use Rattle.std.specs.Prelude.{◌≡◌, ℕ, ◌+◌, List, [], ◌∷◌, length, Option, None, Some, Result, Ok, Err}
use Rattle.gate_journal.specs.Records.{Read}

-- what no record stands for, and what one more payload makes of a value, if it is a next record
pub record Fold (V : Type 0) : Type 0 where
  pub start : V
  pub next : V → List ℕ → Option V

module _ {V : Type 0} (fold : Fold V) where
  -- what the payloads make of a value, or the place of the first that is no next record
  abbrev pub kept_after : (value : V) (place : ℕ) → List (List ℕ) → Result V ℕ
  kept_after value place [] = Ok value
  kept_after value place (p ∷ ps) = elim (fold.next value p) [
    | Some after ↦ kept_after after (place + 5 + length p) ps
    | None ↦ Err place
  ]

  -- the first record's length stands at place 1
  abbrev pub kept_by : List (List ℕ) → Result V ℕ
  kept_by payloads = kept_after fold.start 1 payloads

  -- what is read stands for, or the place of its damage
  abbrev pub read_as : Read → Result V ℕ
  read_as (Ok payloads) = kept_by payloads
  read_as (Err at) = Err at

  abbrev pub folds_to : V → Read → Type 0
  folds_to value read = read_as read ≡ Ok value

  abbrev pub fails_at : Read → ℕ → Type 0
  fails_at read at = read_as read ≡ Err at
