use Rattle.std.proofs.Common.{◌≡◌, ◌<◌, ◌^◌, ◌%◌, ◌++◌, length}
use Rattle.list_words.specs.Lists.{Each}
use Rattle.topology_journal.specs.Topologies.{rows_bytes}
use Rattle.topology_journal.proofs.tables.read_rows.Given as goal

abbrev pub invariant-rows : goal.invariant-rows
invariant-rows l = record { so_far : l.fn.bytes ≡ rows_bytes l.rows.items ++ l.rest; whole : length l.rest % 9 ≡ 0; starts : Each (λ row. row.start < 2 ^ 64) l.rows.items }

abbrev pub decreases-rows : goal.decreases-rows
decreases-rows l = length l.rest
