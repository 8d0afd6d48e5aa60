use Rattle.std.proofs.Common.{◌≡◌, ◌++◌, length, take}
use Rattle.time_shards.specs.declared.TheConstants.{MAX_ROWS}
use Rattle.time_shards.specs.Shards.{BeginsTable}
use Rattle.time_shards.specs.Spares.{IsSpareFrom}
use Rattle.time_shards.specs.Text.{before}
use Rattle.time_shards.proofs.table.Table.read.Given as goal

abbrev pub invariant-loop-row : goal.invariant-loop-row
invariant-loop-row l = record { long : length l.rows ≡ MAX_ROWS; spare : IsSpareFrom l.row l.rows; begins : BeginsTable (take l.row l.rows); spelled : l.text ≡ before (take l.row l.rows) ++ l.rest }
