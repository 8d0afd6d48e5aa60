use Rattle.std.proofs.Common.{◌≡◌, ◌≤◌, ◌++◌, List, length, not, filter, refl, arith, sym, subst, ◌∙◌}
use Rattle.std.specs.Prelude.{option_to_list}
use Rattle.registry_state.specs.declared.TheConstants.{MOST_WAITING}
use Rattle.batch_queue.proofs.Words.{length-filter_both, same_id, Insert, settled, waiting, IsOnce}
use Rattle.batch_queue.proofs.Waiting.{once_part}
use Rattle.batch_queue.proofs.Answering.{left-append}
use Rattle.batch_queue.proofs.queue.BatchQueue.drop_id.Goals as goal

pub invariant_of-self-clause-once : goal.invariant_of-self-clause-once
invariant_of-self-clause-once c =
    let old = c.args.self.now in
    let keep = λ (x : Insert). not (same_id c.args.id x.id) in
    let left : settled c.drop_id.new.self ++ option_to_list c.other_than-self.result ≡ filter keep (waiting old)
    = (λ j. c.drop_id.ensures j ++ c.other_than-self.ensures.left j) ∙ left-append keep (settled old.settled) (option_to_list old.newest) in
    subst IsOnce (sym left) (once_part keep (waiting old) old.once)

pub invariant_of-self-clause-few : goal.invariant_of-self-clause-few
invariant_of-self-clause-few c =
    let old = c.args.self.now in
    let keep = λ (x : Insert). not (same_id c.args.id x.id) in
    let left : settled c.drop_id.new.self ++ option_to_list c.other_than-self.result ≡ filter keep (waiting old)
    = (λ j. c.drop_id.ensures j ++ c.other_than-self.ensures.left j) ∙ left-append keep (settled old.settled) (option_to_list old.newest) in
    let few = old.few in
    let both = length-filter_both keep (λ x. not (keep x)) (λ x. refl) (waiting old) in
    subst (λ (xs : List Insert). length xs ≤ MOST_WAITING) (sym left) (omega arith)
