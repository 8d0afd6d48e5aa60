use Rattle.std.proofs.Common.{◌≡◌, ◌++◌, take}
use Rattle.topology_journal.specs.Topologies.{rows_bytes}
use Rattle.topology_journal.proofs.topology.put_rows.Given as goal

abbrev pub invariant-loop-row : goal.invariant-loop-row
invariant-loop-row l = l.bytes ≡ l.fn.bytes ++ rows_bytes (take l.row-index l.rows)
