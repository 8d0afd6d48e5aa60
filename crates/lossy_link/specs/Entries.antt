-- Which rule or stop a JSON value is, and which list of them an array.
use Rattle.std.specs.Prelude.{◌==◌, ◌+◌, ℕ, List, [], ◌∷◌, Option, Some, None, false, if◌then◌else◌, option_and_then, option_map, codes}
use Rattle.std.specs.Option.{option_map_or}
use Rattle.std.specs.Str.{bytes_eq}
use Rattle.serde_json.specs.Data.{Data}
use Rattle.serde_json.specs.Find.{get, as_str}
use Rattle.lossy_link.specs.declared.entries.TheConstants.{MOST_ENTRIES}
use Rattle.lossy_link.specs.declared.plan.Rule.{Rule}
use Rattle.lossy_link.specs.declared.plan.PlanStop.{PlanStop}
use Rattle.lossy_link.specs.declared.bad_plan.Field.{Field}
use Rattle.lossy_link.specs.Members.{Text, has_only, number, number_at, number_or, text_at}
use Rattle.lossy_link.specs.Words.{disk_of, fate_of, image_of, kind_of}
use Rattle.lossy_link.specs.Outcome.{Outcome, bad, go_on, good}

-- ---- a rule

abbrev pub rule_keys : List Text
rule_keys = codes "from" ∷ codes "to" ∷ codes "first" ∷ codes "count" ∷ codes "every" ∷ codes "fate" ∷ codes "by" ∷ []

-- `every` and `by` may be missing; the delay `by` is in its range also beside `drop`, which has no use for it
abbrev pub rule_at : Data → Option Rule
rule_at d =
    option_and_then (λ from. option_and_then (λ to. option_and_then (λ first. option_and_then (λ count.
    option_and_then (λ every. option_and_then (λ by. option_map (λ fate. record {
      from = from;
      to = to;
      first = first;
      count = count;
      every = every;
      fate = fate;
    }) (option_and_then (fate_of by) (text_at (codes "fate") d)))
    (number_or 0 (codes "by") 0 1000 d)) (number_or 1 (codes "every") 1 1000000 d))
    (number_at (codes "count") 0 1000000 d)) (number_at (codes "first") 0 18446744073709551615 d))
    (option_and_then kind_of (text_at (codes "to") d))) (option_and_then kind_of (text_at (codes "from") d))

abbrev pub rule_of : Data → Option Rule
rule_of d = if has_only rule_keys d then rule_at d else None

-- ---- a stop

abbrev pub stop_keys : List Text
stop_keys = codes "disk" ∷ codes "which" ∷ codes "call" ∷ codes "image" ∷ []

-- all disks of the kind, or one by its number
abbrev pub which_of : Data → Option (Option ℕ)
which_of d = if option_map_or (λ t. bytes_eq t (codes "all")) (as_str d) false then Some None else option_map Some (number 0 7 d)

abbrev pub stop_at : Data → Option PlanStop
stop_at d =
    option_and_then (λ disk. option_and_then (λ which. option_and_then (λ call. option_map (λ image. record {
      disk = disk;
      which = which;
      call = call;
      image = image;
    }) (option_and_then image_of (text_at (codes "image") d))) (number_at (codes "call") 0 18446744073709551615 d))
    (option_and_then which_of (get (codes "which") d))) (option_and_then disk_of (text_at (codes "disk") d))

abbrev pub stop_of : Data → Option PlanStop
stop_of d = if has_only stop_keys d then stop_at d else None

-- ---- a list of them

abbrev pub entry_then : {A : Type 0} → (ℕ → Field) → ℕ → Option A → Outcome (List A) → Outcome (List A)
entry_then place n None rest = bad (place n)
entry_then place n (Some x) rest = go_on rest (λ xs. good (x ∷ xs))

-- the entries from number n on, at most so many in all, or the place of the first that is none
abbrev pub list_of : {A : Type 0} → (Data → Option A) → (ℕ → Field) → ℕ → List Data → Outcome (List A)
list_of read place n [] = good []
list_of read place n (d ∷ ds) = if n == MOST_ENTRIES then bad (place MOST_ENTRIES) else entry_then place n (read d) (list_of read place (n + 1) ds)
