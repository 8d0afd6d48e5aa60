use Rattle.std.proofs.Common.{List, map, ap, sym, ◌∙◌, subst}
use Rattle.verify_pass.proofs.Words.{Batch, EventId, KnowAll, ReportLine, TimedRegistry, decided, note_view, same_batch, shard_of, unwritten_line}
use Rattle.verify_pass.proofs.classes.blank_lines.Goals as goal

pub returns-clause-lines : goal.returns-clause-lines
returns-clause-lines c =
    let table = c.args.table.now in
    let batches : EventId → List Batch = λ i. decided same_batch (map (map note_view) c.args.notes.items) (shard_of table i) in
    let known : KnowAll c.deref-2.result.now table batches = subst (λ (rs : List TimedRegistry). KnowAll rs table batches) (sym c.deref-2.ensures.value) c.in_ok-registries.ensures.known in
    let line : EventId → ReportLine = λ i. unwritten_line (batches i) i in
    c.in_ok-lines.ensures batches known ∙ ap (map line) (c.deref.ensures.value ∙ c.in_ok-each.ensures.ids)
