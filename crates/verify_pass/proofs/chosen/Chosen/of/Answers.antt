use Rattle.std.proofs.Common.{◌≡◌, ◌+◌, ℕ, List, [], ◌∷◌, ◌++◌, take, length, ap, sym, ◌∙◌, arith}
use Rattle.verify_pass.proofs.Words.{take_more, take_all, length-take-le, Ballot, Batch, ReplicaNote, casts, casts_from, batch_in, group_at}
use Rattle.verify_pass.proofs.Groups.{casts_push, picked_is}
use Rattle.verify_pass.proofs.chosen.Chosen.of.Goals as goal

pub loop-replica-preserved : goal.loop-replica-preserved
loop-replica-preserved c =
    let js = c.args.journals.now in
    let k = c.loop-replica.replica in
    let x = c.index-journals-replica.result in
    let count : length (take k js) ≡ k = length-take-le k js (omega arith) in
    let size : k ≡ 0 + length (take k js) = omega (arith, count) in
    record {
      casts = λ p.
          let had = casts_from 0 (take k js) p in
          c.in_ok-take_all.ensures.casts p
          ∙ ap (λ (cs : List (ℕ × (Ballot × Batch))). cs ++ casts k c.as_slice.result.now p) (c.loop-replica.invariant.casts p)
          ∙ ap (λ (ns : List ReplicaNote). had ++ casts k ns p) c.as_slice.ensures
          ∙ ap (λ (r : ℕ). had ++ casts r x p) size
          ∙ sym (casts_push 0 (take k js) x p)
          ∙ ap (λ (l : List (List ReplicaNote)). casts_from 0 l p) (ap (λ (n : List ReplicaNote). take k js ++ n ∷ []) c.index-journals-replica.is ∙ sym (take_more js k x (omega arith)));
      last = c.in_ok-take_all.ensures.last c.loop-replica.invariant.last;
      replicas = c.take_all.ensures.replicas ∙ c.loop-replica.invariant.replicas;
    }

pub returns-clause-batches : goal.returns-clause-batches
returns-clause-batches c = λ p.
    let js = c.args.journals.now in
    let chosen = c.loop-replica.chosen in
    ap (λ (n : ℕ). batch_in n (group_at chosen p)) c.loop-replica.invariant.replicas
    ∙ picked_is js p (group_at chosen p) (c.loop-replica.invariant.casts p ∙ ap (λ (l : List (List ReplicaNote)). casts_from 0 l p) (take_all c.loop-replica.replica js (omega (arith, c.loop-replica-test.false))))
