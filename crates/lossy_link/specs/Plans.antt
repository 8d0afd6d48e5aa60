-- Which plan bytes are, and the first place at which they are none.
use Rattle.std.specs.Prelude.{◌≡◌, ◌<◌, ◌≤◌, ℕ, List, [], ◌∷◌, length, Option, Some, None, if◌then◌else◌, codes, IsUtf8, ⊤}
use Rattle.std.specs.Option.{option_map_or}
use Rattle.serde_json.specs.Data.{Data}
use Rattle.serde_json.specs.Read.{read}
use Rattle.lossy_link.specs.declared.read.TheConstants.{MOST_BYTES}
use Rattle.lossy_link.specs.declared.bad_plan.BadPlan.{BadPlan}
use Rattle.lossy_link.specs.declared.bad_plan.BadPlan.TheVariants.{At, Memory}
use Rattle.lossy_link.specs.declared.bad_plan.Field.{Field}
use Rattle.lossy_link.specs.declared.bad_plan.Field.TheVariants as field
use Rattle.lossy_link.specs.Fates.{PlanView}
use Rattle.lossy_link.specs.Members.{Text, array_at, has_only, number}
use Rattle.lossy_link.specs.Entries.{list_of, rule_of, stop_of}
use Rattle.lossy_link.specs.Outcome.{Outcome, bad, go_on, good, or_top}

-- ---- the plan of a JSON value

-- nobody, or one of three replicas
abbrev pub dead_of : List Data → Outcome (Option ℕ)
dead_of [] = good None
dead_of (d ∷ []) = option_map_or (λ n. good (Some n)) (number 0 2 d) (bad field.Dead)
dead_of (d ∷ e ∷ ds) = bad field.Dead

abbrev pub top_keys : List Text
top_keys = codes "rules" ∷ codes "stops" ∷ codes "dead" ∷ []

-- the plan of the three arrays, or the first bad place
abbrev pub parts_of : List Data → List Data → List Data → Outcome PlanView
parts_of rs ss ds = go_on (list_of rule_of field.Rules 0 rs) (λ rules. go_on (list_of stop_of field.Stops 0 ss) (λ stops. go_on (dead_of ds) (λ dead.
    good (record { rules = rules; stops = stops; dead = dead }))))

abbrev pub plan_of : Data → Outcome PlanView
plan_of d = if has_only top_keys d
    then or_top (array_at (codes "rules") d) (λ rs. or_top (array_at (codes "stops") d) (λ ss. or_top (array_at (codes "dead") d) (parts_of rs ss)))
    else bad field.Top

-- ---- the bytes of a plan

abbrev pub size_limit : ℕ
size_limit = MOST_BYTES

-- the bytes are UTF-8, and the JSON text of the value d
abbrev pub IsTextOf : List ℕ → Data → Type 0
IsTextOf bytes d = IsUtf8 bytes × (read bytes ≡ Some d)

-- what the bytes are: a plan, or none for the first bad place
pub data HasOutcome (bytes : List ℕ) (o : Outcome PlanView) : Type 0 where
  too_long : size_limit < length bytes → o ≡ bad field.Size → HasOutcome bytes o
  no_text : length bytes ≤ size_limit → ((d : Data) → IsTextOf bytes d → ⊥) → o ≡ bad field.Json → HasOutcome bytes o
  a_value : (d : Data) → length bytes ≤ size_limit → IsTextOf bytes d → o ≡ plan_of d → HasOutcome bytes o

-- p is the plan that the bytes are
abbrev pub IsPlanOf : List ℕ → PlanView → Type 0
IsPlanOf bytes p = HasOutcome bytes (good p)

-- the bytes are no plan, and e is the first bad place
abbrev pub IsFirstBad : List ℕ → Field → Type 0
IsFirstBad bytes e = HasOutcome bytes (bad e)

-- memory ran out, or this is the first bad place
abbrev pub IsFault : List ℕ → BadPlan → Type 0
IsFault bytes Memory = ⊤
IsFault bytes (At e) = IsFirstBad bytes e
