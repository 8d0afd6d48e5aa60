use Rattle.std.proofs.Common.{◌≡◌, ℕ, ◌+◌, ap, subst, arith}
use Rattle.verify_pass.proofs.Words.{place_of, batch_in, slots, IsAt}
use Rattle.verify_pass.proofs.Fronts.{at_start, ended}
use Rattle.verify_pass.proofs.states.registry.Goals as goal

pub loop-slot-init : goal.loop-slot-init
loop-slot-init c = at_start (slots c.args.chosen.now c.args.shard) c.new-registry.result c.new-registry.ensures

pub returns : goal.returns
returns c = λ ends.
    let f = slots c.args.chosen.now c.args.shard in
    let last = c.last-last.result in
    let here : c.loop-slot.slot ≡ last = omega (arith, c.loop-slot.auto.slot-end, c.loop-slot-test.false) in
    ended f last c.loop-slot.registry c.learn_slot-2.new.registry c.in_ok-learn_slot-2.field-0 c.in_ok-learn_slot-2.ensures.next c.in_ok-learn_slot-2.ensures.whole (ap (batch_in c.args.chosen.now.replicas) (ends (place_of c.args.shard (last + 1)) (omega (arith, c.last-last.ensures)))) (subst (λ (n : ℕ). IsAt f n c.loop-slot.registry) here c.loop-slot.invariant)
