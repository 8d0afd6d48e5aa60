-- Worked rows of the order of ballots, and of marks.
use Rattle.std.specs.Prelude.{◌≡◌, ℕ, [], ◌∷◌, true, false}
use Rattle.ballot_core.specs.declared.Ballot.{Ballot}
use Rattle.ballot_core.specs.Ballots.{is_below, is_same}
use Rattle.ballot_core.specs.Majority.{marked}

abbrev pub ballot : ℕ → ℕ → ℕ → Ballot
ballot round epoch site = record { round = round; epoch = epoch; site = site }

pub record RowsHold : Type 0 where
  pub round_first : is_below (ballot 0 9 1) (ballot 1 1 0) ≡ true
  pub then_epoch : is_below (ballot 1 1 1) (ballot 1 2 0) ≡ true
  pub then_site : is_below (ballot 1 1 0) (ballot 1 1 1) ≡ true
  pub not_back : is_below (ballot 1 2 0) (ballot 1 1 1) ≡ false
  pub not_itself : is_below (ballot 1 1 0) (ballot 1 1 0) ≡ false
  pub itself : is_same (ballot 1 1 0) (ballot 1 1 0) ≡ true
  pub another : is_same (ballot 1 1 0) (ballot 1 1 1) ≡ false
  pub two_marks : marked (true ∷ false ∷ true ∷ []) ≡ 2
