-- Which lines are in order, and how many entries an index of them has. In each list of ids those of the last lines come
-- first.
use Rattle.std.specs.Prelude.{ℕ, ◌+◌, ◌/◌, ◌==◌, ◌&&◌, ◌||◌, nat_lt, not, Bool, List, [], ◌∷◌, length, sum_by, count_by, if◌then◌else◌, Option, Some, None}
use Rattle.std.specs.List.{list_any, list_all}
use Rattle.event_id.specs.declared.id.EventId.{EventId}
use Rattle.event_id.specs.EventId.{is_same}
use Rattle.log_records.specs.declared.records.QueryRec.{QueryRec}

-- whether two ids are of one process
abbrev pub same_process : EventId → EventId → Bool
same_process a b = (a.ip == b.ip) && (a.pid == b.pid)

-- whether the id's micros are above those of each earlier id of its process
abbrev pub is_in_order : List EventId → EventId → Bool
is_in_order earlier id = list_all (λ e. not (same_process id e) || nat_lt e.micros id.micros) earlier

-- those that are in order where they stand
abbrev pub in_order : List EventId → List EventId
in_order [] = []
in_order (id ∷ earlier) = if is_in_order earlier id then id ∷ in_order earlier else in_order earlier

-- the others
abbrev pub strays : List EventId → List EventId
strays [] = []
strays (id ∷ earlier) = if is_in_order earlier id then strays earlier else id ∷ strays earlier

-- how many in-order lines the id's process has
abbrev pub run_length : List EventId → EventId → ℕ
run_length ids id = count_by (same_process id) (in_order ids)

-- each id once, where a test says which are one
abbrev pub distinct : (EventId → EventId → Bool) → List EventId → List EventId
distinct same [] = []
distinct same (id ∷ ids) = if list_any (same id) ids then distinct same ids else id ∷ distinct same ids

-- of each process one entry for every sixteen in-order lines, rounded up, and one for each id that a stray line has
abbrev pub entries_among : List EventId → ℕ
entries_among ids = sum_by (λ id. (run_length ids id + 15) / 16) (distinct same_process ids) + length (distinct is_same (strays ids))

-- the ids of the lines that have a record, before these
abbrev pub ids_onto : List EventId → List (Option QueryRec) → List EventId
ids_onto earlier [] = earlier
ids_onto earlier (None ∷ lines) = ids_onto earlier lines
ids_onto earlier (Some q ∷ lines) = ids_onto (q.id ∷ earlier) lines

-- how many entries the index of these lines has
abbrev pub entries_of : List (Option QueryRec) → ℕ
entries_of lines = entries_among (ids_onto [] lines)
