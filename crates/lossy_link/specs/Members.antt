-- The members of a JSON object. Of a key that stands twice the last value counts.
use Rattle.std.specs.Prelude.{◌&&◌, ℕ, Bool, true, false, List, [], ◌∷◌, Option, Some, None, if◌then◌else◌, nat_le, option_and_then, option_map}
use Rattle.std.specs.List.{list_any}
use Rattle.std.specs.Option.{option_map_or}
use Rattle.std.specs.Str.{bytes_eq}
use Rattle.serde_json.specs.Data.{Data, Items, Members, no_items, item, no_members, member}
use Rattle.serde_json.specs.Find.{get, as_array, as_number, as_object, as_str, as_u64}

abbrev pub Text : Type 0
Text = List ℕ

abbrev pub keys_within : List Text → Members → Bool
keys_within names no_members = true
keys_within names (member k d ms) = list_any (λ name. bytes_eq name k) names && keys_within names ms

-- an object that has no other keys
abbrev pub has_only : List Text → Data → Bool
has_only names d = option_map_or (keys_within names) (as_object d) false

abbrev pub text_at : Text → Data → Option Text
text_at k d = option_and_then as_str (get k d)

abbrev pub in_range : ℕ → ℕ → ℕ → Option ℕ
in_range low high n = if nat_le low n && nat_le n high then Some n else None

-- a whole number in its range; a number with a point or an exponent, and `-0`, is none
abbrev pub number : ℕ → ℕ → Data → Option ℕ
number low high d = option_and_then (in_range low high) (option_and_then as_u64 (as_number d))

abbrev pub number_at : Text → ℕ → ℕ → Data → Option ℕ
number_at k low high d = option_and_then (number low high) (get k d)

-- the same of a key that may be missing
abbrev pub number_or : ℕ → Text → ℕ → ℕ → Data → Option ℕ
number_or or k low high d = option_map_or (number low high) (get k d) (Some or)

abbrev pub data_in : Items → List Data
data_in no_items = []
data_in (item d ds) = d ∷ data_in ds

-- an array, which is empty where its key is missing
abbrev pub array_at : Text → Data → Option (List Data)
array_at k d = option_map_or (λ x. option_map data_in (as_array x)) (get k d) (Some [])
