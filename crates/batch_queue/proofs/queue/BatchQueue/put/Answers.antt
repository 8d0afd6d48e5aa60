use Rattle.std.proofs.Common.{◌≡◌, ◌∷◌, [], length, false, rules, arith}
use Rattle.std.specs.Prelude.{option_to_list}
use Rattle.registry_state.specs.declared.TheConstants.{MOST_WAITING}
use Rattle.batch_queue.proofs.Words.{length-append, settled, has_token}
use Rattle.batch_queue.proofs.Waiting.{once_push}
use Rattle.batch_queue.proofs.queue.BatchQueue.put.Goals as goal

pub invariant_of-self-clause-once : goal.invariant_of-self-clause-once
invariant_of-self-clause-once c =
    let old = c.args.self.now.settled in
    let new : has_token (settled old) c.args.insert.token ≡ false = search rules in
    once_push (settled old) c.args.insert old.once new

pub invariant_of-self-clause-few : goal.invariant_of-self-clause-few
invariant_of-self-clause-few c =
    let old = c.args.self.now in
    let xs = settled old.settled in
    let few = old.few in
    let before = length-append xs (option_to_list old.newest) in
    let after = length-append xs (c.args.insert ∷ []) in
    let apart : length xs ≡ MOST_WAITING → ⊥ = search rules in
    omega (arith, apart)
