-- Records of positions that are parked and settled.
use Rattle.std.specs.Prelude.{◌≡◌, ℕ, ◌<◌, ◌^◌, List, [], ◌∷◌, ◌++◌, length, Bool, true, false, ◌==◌, nat_eq, slice_index, drop, if◌then◌else◌, Option, None, Some, Result}
use Rattle.std.specs.List.{list_any}
use Rattle.std.specs.Set.{remove_key}
use Rattle.std.specs.Int.{from_be_bytes, to_be_bytes, w64}
use Rattle.gate_journal.specs.Gate.{gate_rule}
use Rattle.gate_journal.specs.Fold.{Fold, read_as, folds_to}
use Rattle.gate_journal.specs.Records as of
use Rattle.retry_log.specs.declared.changing.Change.{Change}
use Rattle.retry_log.specs.declared.changing.Change.TheVariants.{Park, Settle}

-- the record of a change
abbrev pub record_of : Change → List ℕ
record_of (Park position) = 4 ∷ to_be_bytes w64 position
record_of (Settle position) = 5 ∷ to_be_bytes w64 position

-- the position of a record's eight last bytes
abbrev pub position_in : List ℕ → ℕ
position_in payload = from_be_bytes w64 (drop 1 payload)

-- the change that a record says, if it is one of this kind
abbrev pub change_in : List ℕ → Option Change
change_in payload =
    if length payload == 9
    then (if slice_index payload 0 == 4
    then Some (Park (position_in payload))
    else (if slice_index payload 0 == 5 then Some (Settle (position_in payload)) else None))
    else None

-- this position is among these
abbrev pub is_among : List ℕ → ℕ → Bool
is_among pending position = list_any (nat_eq position) pending

-- A position that isn't pending is parked behind the others. One that is pending is settled, and the others keep their
-- order. Nothing else is a change.
abbrev pub changed : List ℕ → Option Change → Option (List ℕ)
changed pending (Some (Park position)) = if is_among pending position then None else Some (pending ++ position ∷ [])
changed pending (Some (Settle position)) = if is_among pending position then Some (remove_key (nat_eq position) pending) else None
changed pending None = None

-- with no record nothing is pending
abbrev pub retries : Fold (List ℕ)
retries = record { start = []; next = λ pending payload. changed pending (change_in payload) }

-- a position that isn't pending may be parked, and one that is may be settled
abbrev pub MayCome : List ℕ → Change → Type 0
MayCome pending (Park position) = (is_among pending position ≡ false) × (position < 2 ^ 64)
MayCome pending (Settle position) = (is_among pending position ≡ true) × (position < 2 ^ 64)

abbrev pub after : List ℕ → Change → List ℕ
after pending (Park position) = pending ++ position ∷ []
after pending (Settle position) = remove_key (nat_eq position) pending

-- how many places among the pending positions a change takes
abbrev pub places_of : Change → ℕ
places_of (Park position) = 1
places_of (Settle position) = 0

-- what a file keeps pending
abbrev pub pending_of : List ℕ → Result (List ℕ) ℕ
pending_of bytes = read_as retries (gate_rule bytes)

-- the bytes keep these positions pending
abbrev pub Keeps : List ℕ → List ℕ → Type 0
Keeps = of.Keeps (folds_to retries)

abbrev pub KeepsOr : (old new : List ℕ) → List ℕ → Type 0
KeepsOr = of.KeepsOr (folds_to retries)

abbrev pub IsLeft : (List ℕ → Type 0) → List ℕ → Type 0
IsLeft = of.IsLeft (folds_to retries)
