use Rattle.std.proofs.Common.{◌≡◌, ◌++◌, take}
use Rattle.topology_journal.specs.Topologies.{rest_text}
use Rattle.topology_journal.proofs.tables.put_rest.Given as goal

abbrev pub invariant-loop-row : goal.invariant-loop-row
invariant-loop-row l = l.text.items ≡ l.fn.text.items ++ rest_text (take l.row-index l.rows)
