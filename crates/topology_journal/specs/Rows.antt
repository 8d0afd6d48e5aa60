-- A topology, worked out, and others that may and may not come behind it.
use Rattle.std.specs.Prelude.{ℕ, [], ◌∷◌}
use Rattle.time_shards.specs.declared.ShardRow.{ShardRow}
use Rattle.topology_journal.specs.declared.topology.Topology.{Topology}
use Rattle.topology_journal.specs.Topologies.{topology_of}

abbrev pub row : ℕ → ℕ → ShardRow
row start count = record { start = start; count = count }

-- two joiners a site, and four shards, eight from 3000 on
abbrev pub a_topology : Topology
a_topology = topology_of 2 (row 0 4 ∷ row 3000 8 ∷ [])

-- a row more
abbrev pub later : Topology
later = topology_of 2 (row 0 4 ∷ row 3000 8 ∷ row 4000 2 ∷ [])

-- the same with another number of joiners, with another row before, and with two rows more
abbrev pub of_other_joiners : Topology
of_other_joiners = topology_of 1 (row 0 4 ∷ row 3000 8 ∷ row 4000 2 ∷ [])

abbrev pub of_other_rows : Topology
of_other_rows = topology_of 2 (row 0 4 ∷ row 3000 7 ∷ row 4000 2 ∷ [])

abbrev pub of_two_rows_more : Topology
of_two_rows_more = topology_of 2 (row 0 4 ∷ row 3000 8 ∷ row 4000 2 ∷ row 5000 4 ∷ [])
