use Rattle.std.proofs.Common.{◌≡◌, List, map, take}
use Rattle.verify_pass.proofs.Words.{EventId, Batch, KnowAll, unboxed, unwritten_line}
use Rattle.verify_pass.proofs.lines.unwritten_lines.Given as goal

-- the ids so far have their lines
abbrev pub invariant-loop-id : goal.invariant-loop-id
invariant-loop-id l = (batches : EventId → List Batch) → KnowAll l.registries l.table batches → unboxed l.lines.items ≡ map (λ i. unwritten_line (batches i) i) (take l.id-index l.ids)
