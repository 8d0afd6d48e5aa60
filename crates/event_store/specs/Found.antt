-- What is found among the lines read.
use Rattle.std.specs.Prelude.{◌≡◌, ◌^◌, ◌<◌, List, length, Option, Some, None}
use Rattle.std.specs.List.{filter_map}
use Rattle.event_id.specs.declared.id.EventId.{EventId}
use Rattle.log_records.specs.declared.records.QueryRec.{QueryRec}
use Rattle.log_records.specs.Line.{IsQuery}
use Rattle.log_records.specs.Log.{first}
use Rattle.event_store.specs.declared.store.Lookup.{Lookup}
use Rattle.event_store.specs.declared.store.Lookup.TheVariants.{Found, NotYet}

-- the records among the lines, of which a refused one has none
abbrev pub records : List (Option QueryRec) → List QueryRec
records lines = filter_map (λ line. line) lines

-- the first record with the id
abbrev pub found : List (Option QueryRec) → EventId → Option QueryRec
found lines id = first (records lines) id

abbrev pub IsLookup : List (Option QueryRec) → EventId → Lookup → Type 0
IsLookup lines id (Found q) = found lines id ≡ Some q
IsLookup lines id (NotYet read) = (found lines id ≡ None) × (read ≡ length lines)

-- what was found has a line, and the count is one of 64 bits
abbrev pub IsSpelled : Lookup → Type 0
IsSpelled (Found q) = IsQuery q
IsSpelled (NotYet read) = read < 2 ^ 64
