-- A batch's list of inserts, with its count before it.
use Rattle.std.specs.Prelude.{ℕ, ◌≤◌, List, ◌∷◌, length}
use Rattle.registry_state.specs.declared.TheConstants.{MOST_INSERTS}
use Rattle.registry_state.specs.declared.Insert.{Insert}
use Rattle.list_words.specs.Lists.{Each}
use Rattle.turn_defs.specs.Spellings.{IsInsert, inserts}

abbrev pub counted : List Insert → List ℕ
counted xs = length xs ∷ inserts xs

pub record AreCounted (xs : List Insert) : Type 0 where
  pub count : length xs ≤ MOST_INSERTS
  pub each : Each IsInsert xs
