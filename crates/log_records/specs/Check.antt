-- What a check of a whole log finds: how many records it holds, or its first line that is refused.
use Rattle.std.specs.Prelude.{ℕ, ◌≡◌, ◌≢◌, ◌⊎◌, ◌+◌, ◌<◌, ◌≤◌, List, ◌∷◌, ◌++◌, length, map, Contains}
use Rattle.event_id.specs.declared.id.EventId.{EventId}
use Rattle.list_words.specs.Bytes.{Lacks}
use Rattle.log_records.specs.declared.records.QueryRec.{QueryRec}
use Rattle.log_records.specs.declared.records.ClickRec.{ClickRec}
use Rattle.log_records.specs.declared.why.Why.{Why}
use Rattle.log_records.specs.declared.why.Why.TheVariants as why
use Rattle.log_records.specs.declared.check.BadLine.{BadLine}
use Rattle.log_records.specs.declared.check.TheConstants.{MAX_LOG}
use Rattle.log_records.specs.Line.{query_line, click_line, IsQuery, IsClick, QueryWhy, ClickWhy, Demand}
use Rattle.log_records.specs.Log.{line_feed, whole, HasLines, AreRecords, HoldsQueries, HoldsClicks}

-- the log holds these records, and isn't too big
abbrev pub IsQueryLog : List ℕ → List QueryRec → Type 0
IsQueryLog log qs = HoldsQueries log qs × (length log ≤ MAX_LOG)

abbrev pub IsClickLog : List ℕ → List ClickRec → Type 0
IsClickLog log cs = HoldsClicks log cs × (length log ≤ MAX_LOG)

-- the same of a kind of record: its line, what is in the grammar, and its id
pub record IsLog {R : Type 0} (line_of : R → List ℕ) (IsRecord : R → Type 0) (id_of : R → EventId) (log : List ℕ) (rs : List R) : Type 0 where
  pub lines : HasLines log (map line_of rs)
  pub records : AreRecords line_of IsRecord id_of rs
  pub fits : length log ≤ MAX_LOG

-- for a kind of record, with what is wrong with a line that isn't in the grammar
module _ {R : Type 0} (line_of : R → List ℕ) (IsRecord : R → Type 0) (id_of : R → EventId) (LineWhy : List ℕ → Why → Type 0) where
  -- the line has the id of an earlier record, and other bytes than that record's line
  abbrev pub Conflicts : List R → List ℕ → Type 0
  Conflicts earlier line = (r s : R) × Contains earlier r × IsRecord s × (line ≡ line_of s) × (id_of r ≡ id_of s) × (line_of r ≢ line)

  -- what is wrong with a line behind these records, wherever it stands
  abbrev pub AfterWhy : List R → List ℕ → Why → Type 0
  AfterWhy earlier line w = LineWhy line w ⊎ (Conflicts earlier line × (w ≡ why.Conflict))

  -- what is wrong with the line behind these records, if its line feed is there; else only that it is too long for the log
  abbrev pub NextWhy : List ℕ → List R → Why → Type 0
  NextWhy log earlier w =
      ((line after : List ℕ) × (log ≡ whole (map line_of earlier) ++ (line ++ line_feed ∷ after)) × Lacks line_feed line × Demand (length (whole (map line_of earlier)) + length line < MAX_LOG) why.TooBig (AfterWhy earlier line) w)
      ⊎ ((line : List ℕ) × (log ≡ whole (map line_of earlier) ++ line) × Lacks line_feed line × (MAX_LOG < length log) × (w ≡ why.TooBig))

  -- The log's first line that is refused, from 1, and the first why that applies: the lines before it are records,
  -- and none of them has the byte at place `MAX_LOG`.
  pub record Refuses (log : List ℕ) (bad : BadLine) : Type 0 where
    pub earlier : List R
    pub records : AreRecords line_of IsRecord id_of earlier
    pub fits : length (whole (map line_of earlier)) ≤ MAX_LOG
    pub number : bad.line ≡ length earlier + 1
    pub told : NextWhy log earlier bad.why

abbrev pub RefusesQuery : List ℕ → BadLine → Type 0
RefusesQuery log bad = Refuses query_line IsQuery (λ q. q.id) QueryWhy log bad

abbrev pub RefusesClick : List ℕ → BadLine → Type 0
RefusesClick log bad = Refuses click_line IsClick (λ c. c.id) ClickWhy log bad
