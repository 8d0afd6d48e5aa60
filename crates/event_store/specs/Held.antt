-- What a store knows of the lines that it has read.
use Rattle.std.specs.Prelude.{ℕ, ◌≡◌, List, [], length, Option, Some, None, MatchOption, Contains}
use Rattle.event_id.specs.declared.id.EventId.{EventId}
use Rattle.log_records.specs.declared.records.QueryRec.{QueryRec}
use Rattle.event_store.specs.declared.index.Index.{Index}
use Rattle.event_store.specs.Read.{ReadsNext, ReadsLines, AreRead}
use Rattle.event_store.specs.Found.{found}
use Rattle.event_store.specs.Order.{ids_onto}
use Rattle.event_store.specs.Marks.{Mark, Keeps, first_of, ids_of, Falls}

-- the first line with the id begins at the place
abbrev pub Starts : List ℕ → EventId → ℕ → Type 0
Starts log id s = (before : List (Option QueryRec)) × ReadsLines log 0 s before × (found before id ≡ None) × ((next : ℕ) × (q : QueryRec) × ReadsNext log s next (Some q) × (q.id ≡ id))

-- the index is that of these lines, which are all up to the place
pub record Knows (log : List ℕ) (place : ℕ) (index : Index) (lines : List (Option QueryRec)) (marks : List Mark) : Type 0 where
  pub walk : AreRead log place lines
  pub falls : Falls place marks
  pub tied : (id : EventId) → MatchOption (first_of marks id) (found lines id ≡ None) (λ f. Starts log id f.place)
  pub ids : ids_of marks ≡ ids_onto [] lines
  pub keeps : Keeps index marks

-- each record at hand is the one that the lines have first with its id
abbrev pub IsCache : List (EventId × QueryRec) → List (Option QueryRec) → Type 0
IsCache kept lines = (e : EventId × QueryRec) → Contains kept e → found lines e.0 ≡ Some e.1

pub record Holds (log : List ℕ) (place count : ℕ) (index : Index) (kept : List (EventId × QueryRec)) : Type 0 where
  pub lines : List (Option QueryRec)
  pub marks : List Mark
  pub knows : Knows log place index lines marks
  pub counts : count ≡ length lines
  pub cached : IsCache kept lines
