-- Whether rows are a table.
use Rattle.std.proofs.Common.{◌≡◌, true, List, [], ◌∷◌, length, refl, arith, ◌≤◌}
use Rattle.std.specs.Prelude.{◌&&◌, ◌==◌, nat_le}
use Rattle.std.proofs.lemmas.Bool.{and_parts}
use Rattle.std.proofs.lemmas.Bool.Decides.{nat_tests}
use Rattle.list_words.specs.Lists.{Each}
use Rattle.time_shards.specs.declared.TheConstants.{MAX_ROWS}
use Rattle.time_shards.specs.declared.ShardRow.{ShardRow}
use Rattle.time_shards.specs.Shards.{IsRow, Rises, IsTable, is_row, go_on, is_table}

row_so : (row : ShardRow) → is_row row ≡ true → IsRow row
row_so row e = record { start = grind (arith, nat_tests); some = grind (arith, nat_tests); few = grind (arith, nat_tests) }

rows_so : (row : ShardRow) (rows : List ShardRow) → go_on row.start rows ≡ true → Each IsRow rows × Rises (row ∷ rows)
rows_so row [] e = (tt, tt)
rows_so row (r ∷ rs) e = grind (arith, and_parts, nat_tests, rows_so r rs)

rows_are : (row : ShardRow) (rows : List ShardRow) → Each IsRow rows → Rises (row ∷ rows) → go_on row.start rows ≡ true
rows_are row [] each rises = refl
rows_are row (r ∷ rs) each rises = grind (arith, nat_tests, rows_are r rs each.1 rises.1)

pub table_so : (rows : List ShardRow) → is_table rows ≡ true → IsTable rows
table_so [] e = absurd (cc)
table_so (r ∷ rs) e =
    let a = and_parts (r.start == 0) (is_row r && (go_on r.start rs && nat_le (length (r ∷ rs)) MAX_ROWS)) e in
    let b = and_parts (is_row r) (go_on r.start rs && nat_le (length (r ∷ rs)) MAX_ROWS) a.1 in
    let c = and_parts (go_on r.start rs) (nat_le (length (r ∷ rs)) MAX_ROWS) b.1 in
    let rest = rows_so r rs c.0 in
    let zero : r.start ≡ 0 = grind (arith, nat_tests, a.0) in
    let few : length (r ∷ rs) ≤ MAX_ROWS = grind (arith, nat_tests, c.1) in
    record { some = omega arith; begins = record { few = few; zero = zero; rising = rest.1; each = (row_so r b.0, rest.0) } }

pub table_is : (rows : List ShardRow) → IsTable rows → is_table rows ≡ true
table_is [] t = absurd (omega (arith, t.some))
table_is (r ∷ rs) t = grind (arith, nat_tests, rows_are)
