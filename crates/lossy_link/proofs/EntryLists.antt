-- The lists of a plan, entry by entry.
use Rattle.std.proofs.Common.{◌≡◌, ◌∙◌, ◌<◌, ◌≤◌, ◌+◌, ◌++◌, ℕ, List, ◌∷◌, map, length, drop, get_or, Option, drop-cons, add-one, sym, ap, ap₂}
use Rattle.serde_json.specs.Data.{Data}
use Rattle.lossy_link.specs.declared.bad_plan.Field.{Field}
use Rattle.lossy_link.specs.Entries.{list_of}
use Rattle.lossy_link.specs.Outcome.{Outcome, go_on, good}

-- the entries read so far stand before what the rest gives
abbrev pub after : {A : Type 0} → List A → Outcome (List A) → Outcome (List A)
after xs o = go_on o (λ ys. good (xs ++ ys))

module _ {A V : Type 0} (read : Data → Option A) (place : ℕ → Field) (view : V → Data) where
  pub record Reads (vs : List V) (i : ℕ) (xs : List A) : Type 0 where
    pub count : length xs ≡ i
    pub few : i ≤ 64
    pub same : list_of read place 0 (map view vs) ≡ after xs (list_of read place i (map view (drop i vs)))

  here : (vs : List V) (i : ℕ) (v : V) → i < length vs → v ≡ get_or vs i v → map view (drop i vs) ≡ view v ∷ map view (drop (i + 1) vs)
  here vs i v lt is = ap (map view) (drop-cons vs i v lt) ∙ ap₂ (λ (w : V) (n : ℕ). view w ∷ map view (drop n vs)) (sym is) (sym (add-one i))
