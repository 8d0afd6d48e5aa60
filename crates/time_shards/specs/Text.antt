-- The text of a table, `start:count,start:count`, in decimal without leading zeros, and the first bad row of other texts.
use Rattle.std.specs.Prelude.{ℕ, ◌≡◌, List, [], ◌∷◌, ◌++◌, ◌⊎◌, length, decimal}
use Rattle.event_id.specs.EventId.{colon}
use Rattle.time_shards.specs.declared.ShardRow.{ShardRow}
use Rattle.time_shards.specs.Shards.{BeginsTable}

abbrev pub comma : ℕ
comma = 44

unfoldable pub row_text : ShardRow → List ℕ
row_text row = decimal row.start ++ colon ∷ decimal row.count

-- the rows with commas between them
abbrev pub table_text : List ShardRow → List ℕ
table_text [] = []
table_text (r ∷ []) = row_text r
table_text (r ∷ s ∷ rs) = row_text r ++ comma ∷ table_text (s ∷ rs)

-- the rows with a comma behind each
abbrev pub before : List ShardRow → List ℕ
before [] = []
before (r ∷ rs) = row_text r ++ comma ∷ before rs

-- the text begins with the row, up to a comma or its end
abbrev pub HasFirst : List ℕ → ShardRow → Type 0
HasFirst text row = (text ≡ row_text row) ⊎ ((more : List ℕ) × (text ≡ row_text row ++ comma ∷ more))

-- row n, from 0, is the first bad one: n good rows stand before it, and no row that goes on with them comes next
pub record IsFirstBad (text : List ℕ) (n : ℕ) : Type 0 where
  pub good : List ShardRow
  pub rest : List ℕ
  pub spelled : text ≡ before good ++ rest
  pub place : length good ≡ n
  pub begins : BeginsTable good
  pub bad : (row : ShardRow) → HasFirst rest row → BeginsTable (good ++ row ∷ []) → ⊥
