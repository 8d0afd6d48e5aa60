use Rattle.std.proofs.Common.{◌≡◌, ◌-◌, Bool, cond, List, ◌∷◌, map, length, drop, ap, sym, ◌∙◌, arith, Option, option_map, filter}
use Rattle.verify_pass.proofs.Words.{Ballot, Batch, same_batch, Acceptance, is_most, value_of}
use Rattle.paxos_defs.specs.Decided as paxos
use Rattle.verify_pass.proofs.Groups.{least_next}
use Rattle.verify_pass.proofs.Ids.{drop_next}
use Rattle.verify_pass.proofs.group.pick.Goals.{then-is_most, else-is_most}
use Rattle.verify_pass.proofs.group.pick.Goals as goal

pub loop-taken-preserved : goal.loop-taken-preserved
loop-taken-preserved c =
    let group = c.args.group.now in
    let k = c.loop-taken.taken in
    let f : Ballot × Batch → Bool = is_most c.args.replicas group in
    let x = c.index-group-group.result in
    let rest = drop (length group - k) group in
    let old : Option (Ballot × Batch) = option_map value_of c.loop-taken.least in
    let new : Option (Ballot × Batch) = option_map value_of c.if-is_most.least in
    let choice : Bool → Option (Ballot × Batch) = λ t. cond t (paxos.lower same_batch (value_of x) old) old in
    let next : new ≡ choice (f (value_of x)) = elim c.if-is_most.branch [
      | then-is_most w ↦ ap (option_map value_of) w.least-is ∙ w.lower.ensures ∙ ap choice (sym (sym c.is_most.ensures ∙ w.if-is_most.true))
      | else-is_most w ↦ ap (option_map value_of) w.least-is ∙ ap choice (sym (sym c.is_most.ensures ∙ w.if-is_most.false))
    ] in
    least_next f (value_of x) (map value_of rest) old new c.loop-taken.invariant next
    ∙ ap (λ (y : Acceptance). paxos.least same_batch (filter f (map value_of (y ∷ rest)))) c.index-group-group.is
    ∙ ap (λ (xs : List Acceptance). paxos.least same_batch (filter f (map value_of xs))) (sym (drop_next group k (length group - 1 - k) x (omega arith)))
