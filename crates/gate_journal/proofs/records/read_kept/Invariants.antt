use Rattle.gate_journal.specs.Payloads.{left}
use Rattle.gate_journal.proofs.Taking.{Next}
use Rattle.gate_journal.proofs.records.read_kept.Given as goal

abbrev pub invariant-loop-payload : goal.invariant-loop-payload
invariant-loop-payload g l = Next g.R.Record.keeps l.fn.payloads (left l.payload-iterator) (g.R.Record.kept l.value) l.place
