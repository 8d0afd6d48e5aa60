-- The places of the click lines of a log.
use Rattle.std.specs.Prelude.{◌≡◌, ◌⊎◌, ℕ, suc, ◌+◌, ◌<◌, ◌==◌, List, [], ◌∷◌, ◌++◌, length, find, Option, ⊤, Some}
use Rattle.event_id.specs.declared.id.EventId.{EventId}
use Rattle.event_id.specs.EventId.{is_same}
use Rattle.list_words.specs.Lists.{Mem, Begins}
use Rattle.log_records.specs.declared.records.QueryRec.{QueryRec}
use Rattle.log_records.specs.declared.records.ClickRec.{ClickRec}
use Rattle.log_records.specs.Line.{click_line}
use Rattle.log_records.specs.Log.{line_feed, HoldsQueries, HoldsClicks, first}
use Rattle.list_words.specs.Bytes.{Lacks}

-- a click with the place of its line's first byte, and the place behind its line feed
pub record ClickLine : Type 0 where
  pub place : ℕ
  pub end_ : ℕ
  pub click : ClickRec

-- these clicks, one line each, from a place on
abbrev pub placed : ℕ → List ClickRec → List ClickLine
placed p [] = []
placed p (c ∷ cs) = record { place = p; end_ = suc (p + length (click_line c)); click = c } ∷ placed (suc (p + length (click_line c))) cs

-- the click whose line starts at place p
abbrev pub at : List ClickLine → ℕ → Option ClickLine
at ls p = find (λ (l : ClickLine). l.place == p) ls

-- the first click with an id
abbrev pub first_click : List ClickLine → EventId → Option ClickLine
first_click ls i = find (λ (l : ClickLine). is_same i l.click.id) ls

-- c is the first click with its id, and q the first query with c's query id
abbrev pub IsPair : List QueryRec → List ClickLine → ClickRec → QueryRec → Type 0
IsPair qs ls c q = ((l : ClickLine) × (first_click ls c.id ≡ Some l) × (l.click ≡ c)) × (first qs c.query ≡ Some q)

-- the end of the last whole line, p where there is none
abbrev pub end_from : ℕ → List ClickLine → ℕ
end_from p [] = p
end_from p (l ∷ ls) = end_from l.end_ ls

-- the lines follow one another from place p on, none of them empty
abbrev pub Follow : ℕ → List ClickLine → Type 0
Follow p [] = ⊤
Follow p (l ∷ ls) = (l.place ≡ p) × (p < l.end_) × Follow l.end_ ls

-- p is 0 or the end of a line
abbrev pub IsBoundary : List ClickLine → ℕ → Type 0
IsBoundary ls p = (p ≡ 0) ⊎ ((l : ClickLine) × Mem l ls × (l.end_ ≡ p))

-- equal ids have equal records: the log has no conflict
abbrev pub NoConflict : List ClickLine → Type 0
NoConflict ls = (l m : ClickLine) → Mem l ls → Mem m ls → l.click.id ≡ m.click.id → l.click ≡ m.click

-- the click lines of a log, each at its place
pub record HoldsLines (log : List ℕ) (ls : List ClickLine) : Type 0 where
  pub clicks : List ClickRec
  pub holds : HoldsClicks log clicks
  pub lines : ls ≡ placed 0 clicks

-- ---- laws

-- a longer log holds more records behind those of the shorter one
abbrev pub QueriesBegin : Type 0
QueriesBegin = (log more : List ℕ) (qs rs : List QueryRec) → HoldsQueries log qs → HoldsQueries (log ++ more) rs → Begins qs rs

abbrev pub LinesBegin : Type 0
LinesBegin = (log more : List ℕ) (ls ms : List ClickLine) → HoldsLines log ls → HoldsLines (log ++ more) ms → Begins ls ms

-- the lines follow one another, and no two of one id differ
abbrev pub LinesFollow : Type 0
LinesFollow = (log : List ℕ) (ls : List ClickLine) → HoldsLines log ls → Follow 0 ls × NoConflict ls

-- a line's place and end are those of its bytes
abbrev pub IsInLog : List ℕ → ClickLine → Type 0
IsInLog log l = (front rest : List ℕ) × (log ≡ front ++ (click_line l.click ++ line_feed ∷ rest)) × (length front ≡ l.place) × (l.end_ ≡ suc (l.place + length (click_line l.click)))

abbrev pub LinesStand : Type 0
LinesStand = (log : List ℕ) (ls : List ClickLine) → HoldsLines log ls → (l : ClickLine) → Mem l ls → IsInLog log l

-- behind the last whole line no line ends
abbrev pub LinesEnd : Type 0
LinesEnd = (log : List ℕ) (ls : List ClickLine) → HoldsLines log ls → (front rest : List ℕ) × (log ≡ front ++ rest) × (length front ≡ end_from 0 ls) × Lacks line_feed rest
