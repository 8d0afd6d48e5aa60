use Rattle.std.proofs.Common.{sym}
use Rattle.gate_journal.specs.FoldLaws.{comes_next, comes_wrong}
use Rattle.offset_journal.specs.Offsets.{offsets}
use Rattle.offset_journal.proofs.offsets.OffsetsRecord.take.Goals as goal

pub returns-in-Some-clause-next : goal.returns-in-Some-clause-next
returns-in-Some-clause-next c is ps kept = comes_next offsets ps _ _ _ kept (sym c.in-Some.ensures)

pub returns-in-None-clause-damage : goal.returns-in-None-clause-damage
returns-in-None-clause-damage c is ps rest kept = comes_wrong offsets ps rest _ _ kept (sym c.in-None.ensures)
