-- The first line of each id, in a map.
use Rattle.std.specs.Prelude.{ℕ, ◌≡◌, Bool, List, Option, Some, Contains}
use Rattle.std.specs.Option.{option_map}
use Rattle.std.specs.Ordering.{is_eq}
use Rattle.std.specs.Borrow.{Bor}
use Rattle.std.specs.BTreeMap.{BTreeMap, get}
use Rattle.event_id.specs.declared.id.EventId.{EventId}
use Rattle.event_id.specs.EventId.{id_cmp}

abbrev pub Seen : Type 0
Seen = BTreeMap EventId (Bor (List ℕ))

-- the line kept under an id
abbrev pub line_at : Seen → EventId → Option (List ℕ)
line_at seen id = option_map (λ l. l.now) (get id_cmp seen id)

-- whether two ids are one
abbrev pub is_at : EventId → EventId → Bool
is_at x y = is_eq (id_cmp x y)

-- the map has each record's line under its id, and no other line
pub record Keeps {R : Type 0} (line_of : R → List ℕ) (id_of : R → EventId) (seen : Seen) (rs : List R) : Type 0 where
  pub each : (r : R) → Contains rs r → line_at seen (id_of r) ≡ Some (line_of r)
  pub only : (k : EventId) (line : List ℕ) → line_at seen k ≡ Some line → (r : R) × Contains rs r × (id_of r ≡ k) × (line_of r ≡ line)
