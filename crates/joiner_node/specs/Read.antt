-- Which queries of a log were read, and what a look-up answers.
use Rattle.std.specs.Prelude.{◌≡◌, ℕ, List, ◌++◌, map, length, Some, None}
use Rattle.std.specs.List.{AllByRecursion}
use Rattle.event_id.specs.declared.id.EventId.{EventId}
use Rattle.outside.specs.declared.log.LogFile as log
use Rattle.joiner_node.specs.Terms.{Query, AreRead}
use Rattle.log_records.specs.Line.{query_line, IsQuery}
use Rattle.log_records.specs.Log.{first, HasLines}
use Rattle.tail_reader.specs.Buffered.{behind}
use Rattle.joiner_core.specs.declared.input.Looked.{Looked}
use Rattle.joiner_core.specs.declared.input.Looked.TheVariants.{Found, Lines}
use Rattle.joiner_node.specs.declared.queries.Queries.{Queries}

-- The lines up to the place are the log's first queries, and from there on it has the others.
pub record IsReadTo (log : List ℕ) (place : ℕ) (qs : List Query) : Type 0 where
  pub read : List Query
  pub others : List Query
  pub all : qs ≡ read ++ others
  pub so_far : AreRead log place (map (λ q. Some q) read)
  pub each : AllByRecursion IsQuery others
  pub behind_them : HasLines (behind log place) (map query_line others)

-- the log has these queries, of which those at its front were read
abbrev pub HasRead : {L : Type 0} {d : log.Ghosts L} → Queries L d → List Query → Type 0
HasRead {L} {d} r qs = IsReadTo (d.bytes r.store.tail.log) r.store.tail.place qs

-- the first of all the queries with the id, or that none of so many has it
abbrev pub IsFirst : List Query → EventId → Looked → Type 0
IsFirst qs id (Found q) = first qs id ≡ Some q
IsFirst qs id (Lines n) = (first qs id ≡ None) × (length qs ≡ n)
