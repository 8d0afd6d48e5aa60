use Rattle.std.proofs.Common.{[], List, map, ap, sym, ◌∙◌}
use Rattle.verify_pass.proofs.Words.{map-map, EventId, ClickRec, ReportLine, distinct, Batch, all_pairs, decided_for, first_pair, in_order, line_by}
use Rattle.verify_pass.proofs.Ids.{distinct_in_order}
use Rattle.verify_pass.proofs.classes.classify.Goals as goal

pub returns : goal.returns
returns c clicks same =
    let js = c.args.journals in
    let batches : EventId → List Batch = λ i. decided_for js c.args.table.now i in
    let line : EventId → ReportLine = λ i. line_by (batches i) i (first_pair (all_pairs js) i) in
    c.in_ok-lines-2.ensures
    ∙ c.join_all.ensures batches [] (in_order c.args.ids.items) c.in_ok-lines.ensures.rising c.in_ok-lines.ensures.lines
    ∙ ap (map line) (ap in_order (sym same) ∙ sym (distinct_in_order clicks))
    ∙ map-map line (λ (k : ClickRec). k.id) (distinct clicks)
