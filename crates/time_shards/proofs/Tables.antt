-- Rows of a table.
use Rattle.std.proofs.Common.{◌≡◌, ℕ, ◌<◌, ◌≤◌, List, [], ◌∷◌, ◌++◌, ap, arith}
use Rattle.std.specs.Prelude.{nat_le, if◌then◌else◌}
use Rattle.std.proofs.lemmas.Bool.{le-leb}
use Rattle.std.proofs.lemmas.List.{length-append}
use Rattle.list_words.specs.Lists.{Each}
use Rattle.time_shards.specs.declared.ShardRow.{ShardRow}
use Rattle.time_shards.specs.Shards.{IsRow, Rises, BeginsTable, IsTable, count_at}

each_front : (xs ys : List ShardRow) → Each IsRow (xs ++ ys) → Each IsRow xs
each_front [] ys h = tt
each_front (x ∷ xs) ys h = (h.0, each_front xs ys h.1)

-- they are a table, once there is one
pub table_of : (xs : List ShardRow) (y : ShardRow) → BeginsTable (xs ++ y ∷ []) → IsTable (xs ++ y ∷ [])
table_of xs y h = record { some = omega (arith, length-append xs (y ∷ [])); begins = h }

-- the last of rising rows starts later than each before it
later_start : (x row : ShardRow) (xs later : List ShardRow) → Rises (x ∷ (xs ++ row ∷ later)) → x.start < row.start
later_start x row [] later h = h.0
later_start x row (y ∷ xs) later h = let more = later_start y row xs later h.1 in omega (arith, h.0)

-- a row that starts later doesn't count
pub count_before : (xs : List ShardRow) (row : ShardRow) (count micros : ℕ) → micros < row.start → count_at count (xs ++ row ∷ []) micros ≡ count_at count xs micros
count_before [] row count micros lt = grind arith
count_before (x ∷ xs) row count micros lt = ap (λ (n : ℕ). if nat_le x.start micros then n else count) (count_before xs row x.count micros lt)

-- the count is that of the last row that doesn't start later
pub count_of_last : (xs later : List ShardRow) (row : ShardRow) (count micros : ℕ) → Rises (xs ++ row ∷ later) → row.start ≤ micros → Each (λ next. micros < next.start) later → count_at count (xs ++ row ∷ later) micros ≡ row.count
count_of_last [] later row count micros h le e = grind (arith, le-leb)
count_of_last (x ∷ xs) later row count micros h le e = grind (arith, later_start, count_of_last xs later row x.count micros)
