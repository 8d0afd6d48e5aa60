-- What forbids that ids from a start on change their shards: what any replica accepted, decided or not.
use Rattle.std.specs.Prelude.{ℕ, ◌<◌, ◌≤◌, nat_lt, max, List, [], ◌∷◌, if◌then◌else◌, Option, Some, None}
use Rattle.std.specs.Option.{option_map}
use Rattle.std.specs.Ordering.{ord_min}
use Rattle.std.specs.List.{flat_map, fold}
use Rattle.verify_pass.specs.Terms.{Batch, Each, EventId, Note, bound_of, id_cmp}
use Rattle.paxos_defs.specs.Notes.Note.{Promised, Accepted}
use Rattle.registry_state.specs.declared.Insert.{Insert}
use Rattle.verify_pass.specs.declared.starts.Latest.{Latest}
use Rattle.verify_pass.specs.declared.starts.TooSoon.{TooSoon}
use Rattle.verify_pass.specs.declared.starts.TooSoon.TheVariants.{Bound, Id}

-- what a note accepts
abbrev pub batches_of : Note Batch → List Batch
batches_of (Promised p b) = []
batches_of (Accepted p b v) = v ∷ []

-- what notes accept, and those of several replicas
abbrev pub batches_in : List (Note Batch) → List Batch
batches_in notes = flat_map batches_of notes

abbrev pub all_batches : List (List (Note Batch)) → List Batch
all_batches journals = flat_map batches_in journals

abbrev pub inserts_of : List Batch → List Insert
inserts_of vs = flat_map (λ (v : Batch). v.inserts) vs

-- the lesser of two ids, the first of which there may be
abbrev pub lesser : Option EventId → EventId → EventId
lesser None i = i
lesser (Some least) i = ord_min id_cmp least i

-- the least of one id, which there may be, and those of inserts that aren't earlier than the start
abbrev pub least_with : ℕ → Option EventId → Insert → Option EventId
least_with start least x = if nat_lt x.id.micros start then least else Some (lesser least x.id)

abbrev pub least_from : ℕ → Option EventId → List Insert → Option EventId
least_from start least xs = fold (least_with start) least xs

-- the greatest bound, if it is above the start, else the least id that isn't earlier
abbrev pub too_soon_for : List Batch → ℕ → Option TooSoon
too_soon_for vs start = if nat_lt start (bound_of vs) then Some (Bound (bound_of vs)) else option_map Id (least_from start None (inserts_of vs))

-- the id is earlier than a start, and a batch's bound isn't above it, and its ids are earlier
abbrev pub IsEarlier : ℕ → Insert → Type 0
IsEarlier start x = x.id.micros < start

abbrev pub IsBefore : ℕ → Batch → Type 0
IsBefore start v = (v.bound ≤ start) × Each (IsEarlier start) v.inserts

-- what is found with one more batch
abbrev pub taken : ℕ → Latest → Batch → Latest
taken start l v = record { bound = max l.bound v.bound; id = least_from start l.id v.inserts }
