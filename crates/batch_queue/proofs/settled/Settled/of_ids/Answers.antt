use Rattle.std.proofs.Common.{◌≡◌, [], List, rules, sym, ap, ◌∙◌}
use Rattle.batch_queue.proofs.Words.{values_of, contains, EventId, same_id}
use Rattle.batch_queue.proofs.Numbered.{picked, picked_is, values-filter}
use Rattle.batch_queue.proofs.settled.Settled.of_ids.Goals as goal

pub returns : goal.returns
returns c =
    let self = c.args.self.now in
    let es = self.in_order.entries in
    let ids = c.args.ids.now in
    let nil : c.loop-id.id-iterator ≡ [] = search rules in
    ap values_of (sym (ap (λ (left : List EventId). picked es left c.loop-id.picked.entries) nil) ∙ c.loop-id.invariant ∙ picked_is es self.next ids.keys self.numbered)
    ∙ values-filter (λ x. contains same_id ids x.id) es
