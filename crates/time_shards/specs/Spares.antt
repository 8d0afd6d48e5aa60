-- A list of rows in an array of fixed length.
use Rattle.std.specs.Prelude.{ℕ, zero, suc, ◌≡◌, ◌≤◌, List, [], ◌∷◌, length, take, drop, refl}
use Rattle.std.proofs.Common.{sym, ap, subst, ◌∙◌}
use Rattle.std.proofs.lemmas.List.{length-take-le}
use Rattle.list_words.specs.Lists.{Each}
use Rattle.time_shards.specs.declared.TheConstants.{MAX_ROWS}
use Rattle.time_shards.specs.declared.ShardRow.{ShardRow}

-- what stands in a place that holds no row
abbrev pub spare : ShardRow
spare = record { start = 0; count = 0 }

-- the rows in n places, with spare ones behind
abbrev pub padded : ℕ → List ShardRow → List ShardRow
padded zero rows = []
padded (suc n) [] = spare ∷ padded n []
padded (suc n) (r ∷ rs) = r ∷ padded n rs

-- from the place len on there are no rows
abbrev pub IsSpareFrom : ℕ → List ShardRow → Type 0
IsSpareFrom len rows = Each (λ row. row ≡ spare) (drop len rows)

-- such an array is its rows, padded
pub padded_take : (rows : List ShardRow) (len : ℕ) → IsSpareFrom len rows → padded (length rows) (take len rows) ≡ rows
padded_take [] len h = refl
padded_take (x ∷ xs) zero h = ap (λ (y : ShardRow). y ∷ padded (length xs) []) (sym h.0) ∙ ap (λ (ys : List ShardRow). x ∷ ys) (padded_take xs zero h.1)
padded_take (x ∷ xs) (suc len) h = ap (λ (ys : List ShardRow). x ∷ ys) (padded_take xs len h)

-- what is made of an array of all places and the number of its rows is made of the rows alone
pub fields_back : {X : Type 0} (make : List ShardRow → ℕ → X) (rows : List ShardRow) (len : ℕ) → length rows ≡ MAX_ROWS → len ≤ MAX_ROWS → IsSpareFrom len rows
    → make (padded MAX_ROWS (take len rows)) (length (take len rows)) ≡ make rows len
fields_back make rows len l le h =
    let all = subst (λ n. padded n (take len rows) ≡ rows) l (padded_take rows len h) in
    let long = length-take-le len rows (subst (λ n. len ≤ n) (sym l) le) in
    ap (λ (places : List ShardRow). make places (length (take len rows))) all ∙ ap (λ n. make rows n) long
