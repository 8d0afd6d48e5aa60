use Rattle.std.proofs.Common.{◌≡◌, ◌++◌, ◌∷◌, [], List, rules, Some, None, sym, ap, ◌∙◌}
use Rattle.std.specs.Prelude.{unwrap_or}
use Rattle.batch_queue.proofs.Words.{lookup, get, EventId, same_id, with_id}
use Rattle.batch_queue.proofs.Groups.{Group, written_same, written_new, err_weaker}
use Rattle.batch_queue.proofs.settled.join.Goals as goal

pub returns-in-Some-clause-err : goal.returns-in-Some-clause-err
returns-in-Some-clause-err c =
    let was = get same_id c.args.by_id.now in
    let g = c.push.new.self in
    let here : was c.args.insert.id ≡ Some c.in-Some.group.now = search rules in
    let writes = (c.get_mut.follows.holds g).3 (search rules) in
    err_weaker c.push.result _ _ (λ same i. written_same was (get same_id (c.get_mut.follows.lender g)) c.args.insert.id g writes.0 (here ∙ ap (λ (x : Group). Some x) (sym same)) i) c.push.ensures.err

pub returns-clause-ok : goal.returns-clause-ok
returns-clause-ok c = λ i.
    let x = c.args.insert in
    let was = get same_id c.get_mut.follows.lender-at-none in
    let same : c.get_mut.follows.lender-at-none.entries ≡ c.args.by_id.now.entries = search rules in
    let none : was x.id ≡ None = ap (lookup (same_id x.id)) same ∙ search rules in
    written_new was (get same_id c.insert.new.self) c.args.number x c.in_ok-group.group c.in_ok-group.ensures c.in_ok-insert.ensures.updates.0 none i
    ∙ ap (λ (es : List (EventId × Group)). unwrap_or (lookup (same_id i) es) [] ++ with_id i ((c.args.number, x) ∷ [])) same
