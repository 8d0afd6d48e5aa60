-- Inserts with the numbers under which they wait, and what finds them.
use Rattle.std.specs.Prelude.{ℕ, suc, ◌≤◌, List, [], ◌∷◌, filter, unwrap_or}
use Rattle.std.specs.Coded.{×_prop, le_prop}
use Rattle.std.specs.Ordering.{nat_cmp}
use Rattle.std.specs.Map.{remove_entry}
use Rattle.std.specs.BTreeMap.{insert_entry, is_at}
use Rattle.std.specs.HashMap.{HashMap, get}
use Rattle.event_id.specs.declared.id.EventId.{EventId}
use Rattle.event_id.specs.EventId.{is_same as same_id}
use Rattle.registry_state.specs.declared.Insert.{Insert}

-- the numbers rise, from low on, and all are below next
abbrev pub IsNumbered : ℕ → ℕ → List (ℕ × Insert) → Type 0
IsNumbered low next [] = low ≤ next
IsNumbered low next (e ∷ es) = (low ≤ e.0) × IsNumbered (suc e.0) next es

pub IsNumbered-prop : (low next : ℕ) (es : List (ℕ × Insert)) → IsProp (IsNumbered low next es)
IsNumbered-prop low next [] = le_prop
IsNumbered-prop low next (e ∷ es) = ×_prop le_prop (IsNumbered-prop (suc e.0) next es)

-- those of an id
abbrev pub with_id : EventId → List (ℕ × Insert) → List (ℕ × Insert)
with_id i es = filter (λ e. same_id i e.1.id) es

-- what a map has for an id
abbrev pub group_at : {S : Type 0} → HashMap EventId (List (ℕ × Insert)) S → EventId → List (ℕ × Insert)
group_at groups i = unwrap_or (get same_id groups i) []

-- the entries without those of these numbers
abbrev pub without : List (ℕ × Insert) → List (ℕ × Insert) → List (ℕ × Insert)
without [] es = es
without (e ∷ gone) es = without gone (remove_entry (is_at (nat_cmp e.0)) es)

-- the entries, and these put in by their numbers
abbrev pub with_all : List (ℕ × Insert) → List (ℕ × Insert) → List (ℕ × Insert)
with_all [] es = es
with_all (e ∷ more) es = with_all more (insert_entry nat_cmp es e.0 e.1)
