-- Rows, their bytes and their texts, and what is read of bytes.
use Rattle.std.proofs.Common.{◌≡◌, ℕ, ◌*◌, ◌<◌, ◌≤◌, ◌^◌, Bool, List, [], ◌∷◌, ◌++◌, length, drop, Some, None, refl, sym, ◌∙◌, ap, arith, true, false}
use Rattle.std.specs.Prelude.{slice_index, IsTrue, ◌↔◌}
use Rattle.std.proofs.lemmas.Bool.{and_parts}
use Rattle.std.proofs.lemmas.Bool.Decides.{nat_tests}
use Rattle.std.proofs.lemmas.List.{append-nil}
use Rattle.list_words.specs.Lists.{Each}
use Rattle.time_shards.specs.declared.TheConstants.{MOST_JOINERS}
use Rattle.time_shards.specs.declared.ShardRow.{ShardRow}
use Rattle.time_shards.specs.Shards.{IsTable}
use Rattle.time_shards.specs.Text.{comma, row_text, table_text}
use Rattle.time_shards.proofs.Deciding.{table_so, table_is}
use Rattle.topology_journal.specs.TopologyLaws.{long, rows_back}
use Rattle.topology_journal.specs.Topologies.{topology_of, rows_bytes, rest_text, rows_in, has_front, read_in, one_more}

-- the text of a table, cut behind its first row
pub text_cut : (first : ShardRow) (rows : List ShardRow) → table_text (first ∷ rows) ≡ row_text first ++ rest_text rows
text_cut first [] = sym (append-nil (row_text first))
text_cut first (r ∷ rs) = ap (λ (t : List ℕ). row_text first ++ comma ∷ t) (text_cut r rs)

-- what a front says
pub record Front (bytes : List ℕ) : Type 0 where
  pub some : 1 ≤ slice_index bytes 2
  pub few : slice_index bytes 2 ≤ MOST_JOINERS
  pub size : length (drop 4 bytes) ≡ 9 * slice_index bytes 3

pub front_is : (bytes : List ℕ) → has_front bytes ≡ true → Front bytes
front_is (a ∷ b ∷ j ∷ n ∷ rest) is = record { some = grind arith; few = grind arith; size = grind (arith, nat_tests) }
front_is _ is = (cc)

rows_are : (n : ℕ) (bytes : List ℕ) (rows : List ShardRow) → length bytes ≡ 9 * n → bytes ≡ rows_bytes rows → Each (λ row. row.start < 2 ^ 64) rows → rows_in n bytes ≡ rows
rows_are n bytes rows size is starts =
    let count : n ≡ length rows = omega (arith, size, ap length is, long rows) in
    ap (λ (k : ℕ). rows_in k bytes) count ∙ ap (rows_in (length rows)) is ∙ rows_back rows starts

pub table_read : (bytes : List ℕ) (rows : List ShardRow) → has_front bytes ≡ true → drop 4 bytes ≡ rows_bytes rows → Each (λ row. row.start < 2 ^ 64) rows → IsTable rows
    → read_in bytes ≡ Some (slice_index bytes 1, topology_of (slice_index bytes 2) rows)
table_read bytes rows front is starts table = grind (arith, rows_are, front_is, table_is)

pub no_table : (bytes : List ℕ) (rows : List ShardRow) → has_front bytes ≡ true → drop 4 bytes ≡ rows_bytes rows → Each (λ row. row.start < 2 ^ 64) rows → (IsTable rows → ⊥) → read_in bytes ≡ None
no_table bytes rows front is starts none = grind (arith, rows_are, front_is, table_so)

-- ---- rows and one more

pub more_same : (rows : List ShardRow) (row : ShardRow) → one_more rows (rows ++ row ∷ []) ≡ true
more_same [] row = refl
more_same (r ∷ rs) row = let rest = more_same rs row in rw rest (grind (arith, nat_tests))

none_more : (rows : List ShardRow) → false ≡ one_more rows []
none_more [] = refl
none_more (r ∷ rs) = refl

more_so : (rows earlier : List ShardRow) (row : ShardRow) → one_more rows (earlier ++ row ∷ []) ≡ true → rows ≡ earlier
more_so [] [] row e = refl
more_so [] (s ∷ []) row e = absurd (cc)
more_so [] (s ∷ t ∷ ss) row e = absurd (cc)
more_so (r ∷ rs) [] row e = grind (arith, and_parts, none_more)
more_so (r ∷ rs) (s ∷ ss) row e = grind (arith, more_so rs ss row)

-- whether rows are one more is told by those before the last
pub more_by : (b : Bool) (rows earlier : List ShardRow) (row : ShardRow) → IsTrue b ↔ (rows ≡ earlier) → b ≡ one_more rows (earlier ++ row ∷ [])
more_by h rows earlier row tells = grind (arith, more_same, more_so)

pub none_behind : (rows longer : List ShardRow) → length longer ≡ 0 → false ≡ one_more rows longer
none_behind rows [] e = none_more rows
none_behind rows (s ∷ ss) e = absurd (omega (arith, e))
