-- The place of the first line of each id.
use Rattle.std.specs.Prelude.{ℕ, ◌≡◌, ◌+◌, List, [], ◌∷◌, length, Option, Some, None, if◌then◌else◌}
use Rattle.std.specs.BTreeMap.{BTreeMap, get}
use Rattle.event_id.specs.declared.id.EventId.{EventId}
use Rattle.event_id.specs.EventId.{id_cmp}
use Rattle.log_records.specs.Seen.{is_at}
use Rattle.log_records.specs.declared.stream.Seen.{Seen}
use Rattle.log_records.specs.declared.stream.Seen.TheVariants.{New, Again}

abbrev pub Places : Type 0
Places = BTreeMap EventId ℕ

-- the place kept under an id
abbrev pub place_at : Places → EventId → Option ℕ
place_at places id = get id_cmp places id

-- what is told of an id with this first place
abbrev pub seen_of : Option ℕ → Seen
seen_of None = New
seen_of (Some place) = Again place

module _ {R : Type 0} (line_of : R → List ℕ) (id_of : R → EventId) where
  -- where the first of these records with the id begins, if the lines stand one behind another from a place on
  abbrev pub first_place : ℕ → List R → EventId → Option ℕ
  first_place place [] id = None
  first_place place (r ∷ rs) id = if is_at (id_of r) id then Some place else first_place (place + length (line_of r) + 1) rs id

  -- the map has the place of the first record of each id, and no other
  pub record Keeps (places : Places) (rs : List R) : Type 0 where
    pub each : (id : EventId) → place_at places id ≡ first_place 0 rs id
