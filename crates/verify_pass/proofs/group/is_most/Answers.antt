use Rattle.std.proofs.Common.{◌≡◌, ℕ, suc, ◌+◌, ap, sym, ◌∙◌, Bool, arith}
use Rattle.verify_pass.proofs.Words.{marked, did_replica, marks, value_of}
use Rattle.verify_pass.proofs.Marks.{marks_push}
use Rattle.verify_pass.proofs.group.is_most.Goals as goal

pub loop-replica-preserved : goal.loop-replica-preserved
loop-replica-preserved c =
    let f : ℕ → Bool = did_replica c.args.group.now (value_of c.args.one.now) in
    let k = c.loop-replica.replica in
    let next : suc k ≡ k + 1 = omega arith in
    record {
      counted = ap (λ (n : ℕ). n + c.mark-count.result) c.loop-replica.invariant.counted ∙ ap (λ (n : ℕ). marked (marks f k) + n) c.mark-count.ensures.mark ∙ sym (marks_push f k) ∙ ap (λ (n : ℕ). marked (marks f n)) next;
      few = omega (arith, c.mark-count.ensures.few, c.loop-replica.invariant.few);
    }
