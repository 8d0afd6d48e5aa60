-- A kind whose records are numbers, each above the one before: a tag, and the number's bytes, the high one first.
use Rattle.std.proofs.Common.{◌≡◌, ℕ, ◌+◌, ◌<◌, ◌≤◌, List, [], ◌∷◌, ◌++◌, length, drop, Bool, ◌&&◌, nat_lt, nat_le, refl, le-leb, lt-ltb, Option, None, Some, Ok}
use Rattle.std.specs.Prelude.{◌==◌, slice_index, if◌then◌else◌}
use Rattle.std.proofs.lemmas.Bool.{eq-eqb}
use Rattle.std.specs.Int.{Width, byte_len, from_be_bytes, to_be_bytes}
use Rattle.gate_journal.specs.Fold.{Fold, folds_to}
use Rattle.gate_journal.specs.FoldLaws as folds

module _ (tag : ℕ) (w : Width) (most : ℕ) where
  abbrev pub spelled : ℕ → List ℕ
  spelled number = tag ∷ to_be_bytes w number

  -- the number of a record's last bytes
  abbrev pub number_in : List ℕ → ℕ
  number_in payload = from_be_bytes w (drop 1 payload)

  -- a record of a number above the last one, and not above the greatest
  abbrev pub is_next : ℕ → List ℕ → Bool
  is_next last payload = (length payload == 1 + byte_len w) && (slice_index payload 0 == tag) && nat_lt last (number_in payload) && nat_le (number_in payload) most

  abbrev pub next_number : ℕ → List ℕ → Option ℕ
  next_number last payload = if is_next last payload then Some (number_in payload) else None

  -- with no record the number is 0
  abbrev pub rising : Fold ℕ
  rising = record { start = 0; next = next_number }

  -- a number's record tells it
  abbrev pub IsSpelled : ℕ → Type 0
  IsSpelled number = (length (spelled number) ≡ 1 + byte_len w) × (number_in (spelled number) ≡ number)

  is_number : (last number : ℕ) → IsSpelled number → last < number → number ≤ most → next_number last (spelled number) ≡ Some number
  is_number last number is lt le = rw (is.1, eq-eqb (length (spelled number)) (1 + byte_len w) is.0, eq-eqb tag tag refl, lt-ltb last number lt, le-leb number most le) refl

  pub comes_next : (last number : ℕ) (ps : List (List ℕ)) → IsSpelled number → last < number → number ≤ most → folds_to rising last (Ok ps) → folds_to rising number (Ok (ps ++ spelled number ∷ []))
  comes_next last number ps is lt le kept = folds.comes_next rising ps last number (spelled number) kept (is_number last number is lt le)
