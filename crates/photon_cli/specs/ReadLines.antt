-- What was read of a log, and what its next line came to.
use Rattle.std.specs.Prelude.{ℕ, ◌≡◌, ◌+◌, ◌<◌, ◌≤◌, List, [], ◌∷◌, ◌++◌, length, map}
use Rattle.std.specs.List.{AllByRecursion}
use Rattle.photon_cli.specs.Terms.{AfterWhy, AreRecords, EventId, Keeps, Lacks, MAX_LOG, Places, Why, behind, line_feed, whole}
use Rattle.log_records.specs.Line.{OrMemory}
use Rattle.photon_cli.specs.declared.log_check.step.Step.{Step}
use Rattle.photon_cli.specs.declared.log_check.step.Step.TheVariants.{Line, End, Wrong}

module _ {R : Type 0} (line_of : R → List ℕ) (IsRecord : R → Type 0) (id_of : R → EventId) where
  -- the lines before the place are those of these records
  pub record SoFar (log : List ℕ) (place : ℕ) (rs : List R) : Type 0 where
    pub begins : (rest : List ℕ) × (log ≡ whole (map line_of rs) ++ rest)
    pub at : place ≡ length (whole (map line_of rs))
    pub fits : place ≤ MAX_LOG
    pub records : AreRecords line_of IsRecord id_of rs
    pub lines : AllByRecursion (Lacks line_feed) (map line_of rs)

  -- no line ends behind the place, but perhaps from the limit on
  pub record AtEnd (log : List ℕ) (place : ℕ) (rs : List R) : Type 0 where
    pub so_far : SoFar log place rs
    pub none : Lacks line_feed (behind log place)

  module _ (LineWhy : List ℕ → Why → Type 0) where
    -- what is wrong with the line behind these records, whose line feed stands below the limit
    abbrev pub WrongNext : List ℕ → List R → Why → Type 0
    WrongNext log rs w =
        (line after : List ℕ) × (log ≡ whole (map line_of rs) ++ (line ++ line_feed ∷ after)) × Lacks line_feed line × (length (whole (map line_of rs)) + length line < MAX_LOG) × AfterWhy line_of IsRecord id_of LineWhy rs line w

    -- what the line behind these records came to: one record more, the end, or what is wrong with it
    abbrev pub IsStep : List ℕ → ℕ → Places → List R → Step → Type 0
    IsStep log place places rs (Line id) = (r : R) × (id_of r ≡ id) × SoFar log place (rs ++ r ∷ []) × Keeps line_of id_of places (rs ++ r ∷ [])
    IsStep log place places rs End = AtEnd log place rs
    IsStep log place places rs (Wrong w) = OrMemory (WrongNext log rs) w
