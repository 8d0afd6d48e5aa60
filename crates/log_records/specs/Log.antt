-- Logs: whole lines, and behind them what is still being written.
use Rattle.std.specs.Prelude.{ℕ, ◌≡◌, List, [], ◌∷◌, ◌++◌, Option, map, Contains}
use Rattle.std.specs.List.{flat_map, find, AllByRecursion}
use Rattle.event_id.specs.declared.id.EventId.{EventId}
use Rattle.list_words.specs.Bytes.{Lacks}
use Rattle.event_id.specs.EventId.{is_same}
use Rattle.log_records.specs.declared.records.QueryRec.{QueryRec}
use Rattle.log_records.specs.declared.records.ClickRec.{ClickRec}
use Rattle.log_records.specs.Line.{query_line, click_line, IsQuery, IsClick}

abbrev pub line_feed : ℕ
line_feed = 10

-- lines, each with its line feed
abbrev pub whole : List (List ℕ) → List ℕ
whole lines = flat_map (λ line. line ++ line_feed ∷ []) lines

-- the log is these whole lines and a rest that has no line feed
abbrev pub HasLines : List ℕ → List (List ℕ) → Type 0
HasLines log lines = (rest : List ℕ) × (log ≡ whole lines ++ rest) × Lacks line_feed rest

-- records of a log, each in the grammar of its kind, and no two of one id with other lines
pub record AreRecords {R : Type 0} (line : R → List ℕ) (IsRecord : R → Type 0) (id : R → EventId) (rs : List R) : Type 0 where
  pub each : AllByRecursion IsRecord rs
  pub one : (r s : R) → Contains rs r → Contains rs s → id r ≡ id s → line r ≡ line s

-- the log's lines are these records, of a kind with this line
pub record Holds {R : Type 0} (line : R → List ℕ) (IsRecord : R → Type 0) (id : R → EventId) (log : List ℕ) (rs : List R) : Type 0 where
  pub lines : HasLines log (map line rs)
  pub each : AllByRecursion IsRecord rs
  pub one : (r s : R) → Contains rs r → Contains rs s → id r ≡ id s → r ≡ s

abbrev pub HoldsQueries : List ℕ → List QueryRec → Type 0
HoldsQueries log qs = Holds query_line IsQuery (λ q. q.id) log qs

abbrev pub HoldsClicks : List ℕ → List ClickRec → Type 0
HoldsClicks log cs = Holds click_line IsClick (λ c. c.id) log cs

-- the first query with the id
abbrev pub first : List QueryRec → EventId → Option QueryRec
first qs id = find (λ q. is_same id q.id) qs
