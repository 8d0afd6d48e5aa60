use Rattle.std.proofs.Common.{◌≤◌, ◌++◌, ◌∷◌, [], List, arith, rules, ap, ◌∙◌}
use Rattle.std.specs.Prelude.{option_to_list}
use Rattle.batch_queue.proofs.Words.{contains, IfOk-weaker, same_id, Insert, bound_of, settled, answered, replays}
use Rattle.batch_queue.proofs.Answering.{among_ids}
use Rattle.batch_queue.proofs.queue.BatchQueue.answered.Goals as goal

pub returns : goal.returns
returns g c = λ applied known bound none.
    let self = c.args.self.now in
    let v = c.args.batch.now in
    let f = replays (applied ++ v ∷ []) in
    let newest = option_to_list self.newest in
    let low : v.bound ≤ c.args.bound = search rules in
    let stays : v.bound ≤ bound_of applied = omega (arith, low, bound) in
    IfOk-weaker c.answered_among-2.result _ _
    (λ all h. h ∙ ap (λ (xs : List Insert). answered f (xs ++ newest)) c.in_ok-picked.ensures ∙ among_ids applied v (contains same_id c.in_ok-ids.ids) (settled self.settled) newest stays c.in_ok-ids.ensures none)
    (c.answered_among-2.ensures applied known)
