-- Keys and arrays as the library keeps them, and as lists.
use Rattle.std.proofs.Common.{◌≡◌, ◌&&◌, ◌||◌, Bool, List, [], ◌∷◌, map, refl, ap, ap₂}
use Rattle.std.specs.Prelude.{String, string_bytes}
use Rattle.std.specs.Global.{Global}
use Rattle.std.specs.Borrow.{Bor}
use Rattle.std.specs.List.{list_all, list_any}
use Rattle.std.specs.Str.{bytes_eq}
use Rattle.serde_json.specs.Data.{Data}
use Rattle.serde_json.specs.View.{items_of, members_view}
use Rattle.serde_json.specs.declared.value.Value.{Value}
use Rattle.lossy_link.specs.Members.{Text, data_in, keys_within}

pub data_in-items : (ds : List Data) → data_in (items_of ds) ≡ ds
data_in-items [] = refl
data_in-items (d ∷ ds) = ap (λ t. d ∷ t) (data_in-items ds)

among : (names : List (Bor Text)) (k : Text) → list_any (λ n. bytes_eq n.now k) names ≡ list_any (λ name. bytes_eq name k) (map (λ n. n.now) names)
among [] k = refl
among (n ∷ ns) k = ap (λ (b : Bool). bytes_eq n.now k || b) (among ns k)

pub keys_are : (names : List (Bor Text)) (ms : List (String Global × Value))
    → list_all (λ k. list_any (λ n. bytes_eq n.now (string_bytes k)) names) (map (λ e. e.0) ms) ≡ keys_within (map (λ n. n.now) names) (members_view ms)
keys_are names [] = refl
keys_are names (m ∷ ms) = ap₂ (λ (a b : Bool). a && b) (among names (string_bytes m.0)) (keys_are names ms)
