-- The lines of a query log.
use Rattle.std.specs.Prelude.{ℕ, ◌≡◌, ◌≢◌, ◌+◌, List, [], ◌∷◌, ◌++◌, length, Bool, true, false, Option, Some, None, IfSome, Result, Ok, Err}
use Rattle.list_words.specs.Bytes.{Lacks}
use Rattle.event_id.specs.declared.id.EventId.{EventId}
use Rattle.log_records.specs.declared.records.QueryRec.{QueryRec}
use Rattle.log_records.specs.Line.{query_line, IsQuery}
use Rattle.log_records.specs.Log.{line_feed}
use Rattle.tail_reader.specs.Buffered.{behind}
use Rattle.event_store.specs.declared.store.LookFault.{LookFault}
use Rattle.event_store.specs.declared.store.LookFault.TheVariants.{Read, Memory}

-- what a line counts as: its record, or none where it is refused
abbrev pub ReadsAs : List ℕ → Option QueryRec → Type 0
ReadsAs line (Some q) = IsQuery q × (line ≡ query_line q)
ReadsAs line None = (q : QueryRec) → IsQuery q → line ≢ query_line q

-- what is told of the id of a line that reads as this, where only a line that begins with the front is read
abbrev pub TellsId : List ℕ → Option QueryRec → Option EventId → Type 0
TellsId front None told = told ≡ None
TellsId front (Some q) told = IfSome told (λ id. id ≡ q.id) × ((rest : List ℕ) → query_line q ≡ front ++ rest → told ≡ Some q.id)

-- the next line of the log from a place on was read as this, and the next one begins at the end
abbrev pub ReadsNext : List ℕ → ℕ → ℕ → Option QueryRec → Type 0
ReadsNext log place end_ read = (line rest : List ℕ) × (behind log place ≡ line ++ line_feed ∷ rest) × Lacks line_feed line × (end_ ≡ place + length line + 1) × ReadsAs line read

-- no line feed follows
abbrev pub IsAtEnd : List ℕ → ℕ → Type 0
IsAtEnd log place = Lacks line_feed (behind log place)

-- the lines from a place of the log up to another were read as these
abbrev pub ReadsLines : List ℕ → ℕ → ℕ → List (Option QueryRec) → Type 0
ReadsLines log place end_ [] = end_ ≡ place
ReadsLines log place end_ (read ∷ lines) = (next : ℕ) × ReadsNext log place next read × ReadsLines log next end_ lines

-- these are all lines that end at or before the place
abbrev pub AreRead : List ℕ → ℕ → List (Option QueryRec) → Type 0
AreRead log place lines = ReadsLines log 0 place lines

-- the log couldn't be read
abbrev pub is_read_fault : {T : Type 0} → Result T LookFault → Bool
is_read_fault (Ok x) = false
is_read_fault (Err Read) = true
is_read_fault (Err Memory) = false
