-- Records of topologies.
use Rattle.std.specs.Prelude.{◌≡◌, ℕ, zero, suc, ◌+◌, ◌*◌, ◌≤◌, List, [], ◌∷◌, ◌++◌, length, drop, slice_index, Bool, true, false, ◌&&◌, ◌==◌, nat_le, if◌then◌else◌, Option, None, Some, IfSome}
use Rattle.std.specs.List.{flat_map}
use Rattle.std.specs.Int.{from_be_bytes, to_be_bytes, w64}
use Rattle.std.specs.Option.{option_map}
use Rattle.gate_journal.specs.Gate.{gate_rule}
use Rattle.gate_journal.specs.Fold.{Fold, folds_to, fails_at}
use Rattle.gate_journal.specs.Records as of
use Rattle.time_shards.specs.declared.ShardRow.{ShardRow}
use Rattle.time_shards.specs.declared.TheConstants.{MOST_JOINERS}
use Rattle.time_shards.specs.Shards.{IsTable, is_table}
use Rattle.time_shards.specs.Text.{comma, row_text}
use Rattle.topology_journal.specs.declared.topology.Topology.{Topology}

-- a topology of these
abbrev pub topology_of : ℕ → List ShardRow → Topology
topology_of joiners table = record { joiners = joiners; table = table }

-- some joiners a site, and no more than it may have
pub record HasJoiners (t : Topology) : Type 0 where
  pub some : 1 ≤ t.joiners
  pub few : t.joiners ≤ MOST_JOINERS

-- the joiners of a site, and a table
pub record IsTopology (t : Topology) : Type 0 where
  pub joiners : HasJoiners t
  pub table : IsTable t.table

-- the bytes of a row: its start, and its count
abbrev pub row_bytes : ShardRow → List ℕ
row_bytes row = to_be_bytes w64 row.start ++ row.count ∷ []

-- the bytes of rows, one behind the other
abbrev pub rows_bytes : List ShardRow → List ℕ
rows_bytes rows = flat_map row_bytes rows

-- the texts of rows that stand behind others in a table's text
abbrev pub rest_text : List ShardRow → List ℕ
rest_text rows = flat_map (λ row. comma ∷ row_text row) rows

-- the record of a topology in a version: its tag, the version, the joiners, the number of rows, and the rows
abbrev pub record_of : ℕ → Topology → List ℕ
record_of version t = 1 ∷ version ∷ t.joiners ∷ length t.table ∷ rows_bytes t.table

-- a record as it is written
abbrev pub topology_record : Topology → List ℕ
topology_record t = record_of 2 t

-- ---- reading

-- the row that the first nine bytes are, and the rows that so many times nine bytes are
abbrev pub row_in : List ℕ → ShardRow
row_in bytes = record { start = from_be_bytes w64 bytes; count = slice_index bytes 8 }

abbrev pub rows_in : ℕ → List ℕ → List ShardRow
rows_in zero bytes = []
rows_in (suc n) bytes = row_in bytes ∷ rows_in n (drop 9 bytes)

-- the bytes before the rows are those of a record in version 1 or 2, and as many stand behind them as so many rows have
abbrev pub has_front : List ℕ → Bool
has_front bytes =
    nat_le 4 (length bytes) && (slice_index bytes 0 == 1) && nat_le 1 (slice_index bytes 1) && nat_le (slice_index bytes 1) 2 && nat_le 1 (slice_index bytes 2)
    && nat_le (slice_index bytes 2) MOST_JOINERS && (length bytes == 4 + 9 * slice_index bytes 3)

-- a record that was read: its version, and its topology
abbrev pub read_as_table : List ℕ → List ShardRow → Option (ℕ × Topology)
read_as_table bytes table = if is_table table then Some (slice_index bytes 1, topology_of (slice_index bytes 2) table) else None

abbrev pub read_in : List ℕ → Option (ℕ × Topology)
read_in bytes = if has_front bytes then read_as_table bytes (rows_in (slice_index bytes 3) (drop 4 bytes)) else None

-- whether the second rows are the first ones and one more
abbrev pub one_more : List ShardRow → List ShardRow → Bool
one_more [] (s ∷ []) = true
one_more (r ∷ rs) (s ∷ ss) = (r.start == s.start) && ((r.count == s.count) && one_more rs ss)
one_more _ _ = false

-- whether a topology is the first one with a row more
abbrev pub is_longer : Topology → Topology → Bool
is_longer t u = (t.joiners == u.joiners) && one_more t.table u.table

-- the topology that a record puts in the place of the kept one, if it may come next: the first one may be in version 1 or 2, and
-- each later one is in version 2, of the topology before with a row more
abbrev pub follows : Option Topology → ℕ × Topology → Option Topology
follows None read = Some read.1
follows (Some kept) read = if (read.0 == 2) && is_longer kept read.1 then Some read.1 else None

abbrev pub follows_read : Option Topology → Option (ℕ × Topology) → Option Topology
follows_read kept None = None
follows_read kept (Some read) = follows kept read

abbrev pub next_topology : Option Topology → List ℕ → Option Topology
next_topology kept bytes = follows_read kept (read_in bytes)

-- with no record there is no topology, and the last record's is kept
abbrev pub topologies : Fold (Option Topology)
topologies = record { start = None; next = λ kept bytes. option_map (λ (t : Topology). Some t) (next_topology kept bytes) }

-- the bytes keep this topology, or none
abbrev pub Keeps : Option Topology → List ℕ → Type 0
Keeps = of.Keeps (folds_to topologies)

-- a topology may come where none is kept, and behind the kept one where it has a row more
abbrev pub MayCome : Option Topology → Topology → Type 0
MayCome kept t = IfSome kept (λ k. is_longer k t ≡ true) × IsTopology t

-- it is damaged at a place by its gates, or else at that of the first record that may not come next
abbrev pub IsDamagedAt : List ℕ → ℕ → Type 0
IsDamagedAt bytes at = fails_at topologies (gate_rule bytes) at
