-- The record of a topology that may come next.
use Rattle.std.proofs.Common.{◌≡◌, ℕ, ◌*◌, ◌<◌, ◌≤◌, ◌^◌, List, [], ◌∷◌, ◌++◌, length, refl, ap, ◌∙◌, arith, Ok, Option, None, Some, Bool, true}
use Rattle.std.specs.Prelude.{IfSome, if◌then◌else◌}
use Rattle.std.specs.Option.{option_map}
use Rattle.std.specs.Coded.{Coded, code_by, coded×, coded_list, coded_option, coded_ℕ}
use Rattle.std.proofs.lemmas.Bool.Decides.{nat_tests}
use Rattle.std.proofs.lemmas.Nat.{from_be_bytes-to_be_bytes_8}
use Rattle.list_words.specs.Lists.{Each}
use Rattle.time_shards.specs.declared.TheConstants.{MOST_JOINERS}
use Rattle.time_shards.specs.declared.ShardRow.{ShardRow}
use Rattle.time_shards.specs.Shards.{IsRow}
use Rattle.time_shards.proofs.Deciding.{table_is}
use Rattle.gate_journal.specs.Fold.{folds_to}
use Rattle.gate_journal.specs.FoldLaws as folds
use Rattle.topology_journal.specs.declared.topology.TheConstants.{LONGEST}
use Rattle.topology_journal.specs.declared.topology.Topology.{Topology}
use Rattle.topology_journal.specs.Topologies.{topology_of, IsTopology, row_bytes, rows_bytes, record_of, topology_record, row_in, rows_in, has_front, read_as_table, read_in, is_longer, follows, follows_read, topologies, MayCome}

coded_row : Coded ShardRow
coded_row = code_by (ℕ × ℕ) (coded× coded_ℕ coded_ℕ) (λ r. (r.start, r.count)) (λ x. record { start = x.0; count = x.1 }) (λ _. refl)

coded_topology : Coded Topology
coded_topology = code_by (ℕ × List ShardRow) (coded× coded_ℕ (coded_list coded_row)) (λ t. (t.joiners, t.table)) (λ x. topology_of x.0 x.1) (λ _. refl)

pub coded_kept : Coded (Option Topology)
coded_kept = coded_option coded_topology

-- each row has nine bytes
pub long : (rows : List ShardRow) → length (rows_bytes rows) ≡ 9 * length rows
long [] = refl
long (r ∷ rs) = let e = long rs in omega (arith, e)

pub short : (t : Topology) → IsTopology t → length (topology_record t) ≤ LONGEST
short t is = omega (arith, long t.table, is.table.begins.few)

pub fits : (kept : Option Topology) (t : Topology) → MayCome kept t → length (topology_record t) ≤ LONGEST
fits kept t may = short t may.1

-- ---- a record is read as what it is of

pub row_back : (row : ShardRow) (rest : List ℕ) → row.start < 2 ^ 64 → row_in (row_bytes row ++ rest) ≡ row
row_back row rest lt = ap (λ n. record { start = n; count = row.count }) (from_be_bytes-to_be_bytes_8 row.start lt)

pub rows_back : (rows : List ShardRow) → Each (λ row. row.start < 2 ^ 64) rows → rows_in (length rows) (rows_bytes rows) ≡ rows
rows_back [] h = refl
rows_back (r ∷ rs) h = ap (λ (x : ShardRow). x ∷ rows_in (length rs) (rows_bytes rs)) (row_back r (rows_bytes rs) h.0) ∙ ap (λ (xs : List ShardRow). r ∷ xs) (rows_back rs h.1)

pub row_starts : (rows : List ShardRow) → Each IsRow rows → Each (λ row. row.start < 2 ^ 64) rows
row_starts [] h = tt
row_starts (r ∷ rs) h = (h.0.start, row_starts rs h.1)

front_tests : (v j n : ℕ) (rest : List ℕ) → 1 ≤ v → v ≤ 2 → 1 ≤ j → j ≤ MOST_JOINERS → length rest ≡ 9 * n → has_front (1 ∷ v ∷ j ∷ n ∷ rest) ≡ true
front_tests v j n rest first last some few size = grind (arith, nat_tests)

-- in both versions
pub reads_back : (version : ℕ) (t : Topology) → 1 ≤ version → version ≤ 2 → IsTopology t → read_in (record_of version t) ≡ Some (version, t)
reads_back version t first last is =
    let bytes = record_of version t in
    let front = front_tests version t.joiners (length t.table) (rows_bytes t.table) first last is.joiners.some is.joiners.few (long t.table) in
    ap (λ (b : Bool). if b then read_as_table bytes (rows_in (length t.table) (rows_bytes t.table)) else None) front
    ∙ ap (read_as_table bytes) (rows_back t.table (row_starts t.table is.table.begins.each))
    ∙ ap (λ (b : Bool). if b then Some (version, t) else None) (table_is t.table is.table)

pub comes_next : (kept : Option Topology) (t : Topology) (ps : List (List ℕ)) → MayCome kept t → folds_to topologies kept (Ok ps) → folds_to topologies (Some t) (Ok (ps ++ topology_record t ∷ []))
comes_next kept t ps may is =
    folds.comes_next topologies ps kept (Some t) (topology_record t) is
    (ap (λ (o : Option (ℕ × Topology)). option_map (λ (u : Topology). Some u) (follows_read kept o)) (reads_back 2 t (omega arith) (omega arith) may.1) ∙ ap (option_map (λ (u : Topology). Some u)) (follows_so kept may.0))
  where
    follows_so : (o : Option Topology) → IfSome o (λ k. is_longer k t ≡ true) → follows o (2, t) ≡ Some t
    follows_so None h = refl
    follows_so (Some k) h = ap (λ (b : Bool). if b then Some t else None) h
