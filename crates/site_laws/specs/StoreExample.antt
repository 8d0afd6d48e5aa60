-- Which bytes keep a sound store, worked out: with no record but the topology's, with a pair alone, with another topology, with a row
-- more.
use Rattle.std.specs.Prelude.{ℕ, zero, List, [], ◌∷◌, ◌++◌}
use Rattle.std.specs.Int.{to_be_bytes, w32}
use Rattle.outside.specs.declared.store.DiskName.TheVariants as name
use Rattle.site_laws.specs.Terms.{ShardRow, a_pair, framed, record_of, with_row, worked}
use Rattle.topology_journal.specs.Topologies.{topology_of, record_of as topology_in, topology_record}
use Rattle.site_laws.specs.Stores.{Bytes, KeepSound}

-- the bytes of a journal with one record
abbrev pub one_record : List ℕ → List ℕ
one_record payload = 165 ∷ framed payload

-- the topology of so many joiners, and no other record
abbrev pub topology_alone : ℕ → Bytes
topology_alone joiners name.Topology = one_record (topology_record (topology_of joiners worked.config.table))
topology_alone joiners _ = []

-- a pair in the output log of a joiner, and no other record
abbrev pub pair_alone : Bytes
pair_alone (name.Output zero zero) = one_record (record_of a_pair)
pair_alone _ = []

-- a row, whose topology's record stands behind one in version 1, and no other record
abbrev pub a_row : ShardRow
a_row = record { start = 2001; count = 8 }

abbrev pub row_behind : Bytes
row_behind name.Topology = 165 ∷ to_be_bytes w32 13 ++ topology_in 1 (topology_of 1 worked.config.table) ++ one_record (topology_record (topology_of 1 (worked.config.table ++ a_row ∷ [])))
row_behind _ = []

pub record SoundBytes : Type 0 where
  pub topology : KeepSound worked (topology_alone 1)
  pub no_other_topology : KeepSound worked (topology_alone 2) → ⊥
  pub no_record_before : KeepSound worked pair_alone → ⊥
  pub row_added : KeepSound (with_row worked a_row) row_behind
  pub row_missing : KeepSound (with_row worked a_row) (topology_alone 1) → ⊥
  pub row_not_asked : KeepSound worked row_behind → ⊥
