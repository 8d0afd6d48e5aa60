-- What the check of a log answers.
use Rattle.std.specs.Prelude.{ℕ, ◌≡◌, List, [], length, map, Bool, if◌then◌else◌}
use Rattle.photon_cli.specs.Terms.{ClickLine, EventId, HoldsLines, IsLog, end_from, whole}
use Rattle.photon_cli.specs.ReadLines.{AtEnd}
use Rattle.photon_cli.specs.declared.log_check.lines.Lines.{Lines}

-- the place is the end of the log's last whole line, where it holds click lines
abbrev pub EndsAt : List ℕ → ℕ → Type 0
EndsAt log end_ = (ls : List ClickLine) → HoldsLines log ls → end_ ≡ end_from 0 ls

-- the ids, where they are to be kept
abbrev pub kept : Bool → List EventId → List EventId
kept keep ids = if keep then ids else []

-- the lines of these records were read, and behind them no line ends below the limit
pub record AreLines {R : Type 0} (line_of : R → List ℕ) (IsRecord : R → Type 0) (id_of : R → EventId) (keep : Bool) (log : List ℕ) (rs : List R) (read : Lines) : Type 0 where
  pub at_end : AtEnd line_of IsRecord id_of log read.end rs
  pub count : read.count ≡ length rs
  pub ids : read.ids.items ≡ kept keep (map id_of rs)

-- the log holds these records, and their lines were read
pub record IsChecked {R : Type 0} (line_of : R → List ℕ) (IsRecord : R → Type 0) (id_of : R → EventId) (keep : Bool) (log : List ℕ) (rs : List R) (read : Lines) : Type 0 where
  pub holds : IsLog line_of IsRecord id_of log rs
  pub count : read.count ≡ length rs
  pub ids : read.ids.items ≡ kept keep (map id_of rs)
  pub end_is : read.end ≡ length (whole (map line_of rs))
