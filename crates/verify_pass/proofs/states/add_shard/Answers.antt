use Rattle.std.proofs.Common.{◌≡◌, ℕ, ◌+◌, ap, subst, arith}
use Rattle.verify_pass.proofs.Words.{place_of, batch_in, slots, HasAt}
use Rattle.verify_pass.proofs.Fronts.{has_start, has_ended}
use Rattle.verify_pass.proofs.states.add_shard.Goals as goal

pub loop-slot-init : goal.loop-slot-init
loop-slot-init c = record { rising = λ h. h; kept = λ i h. h; each = has_start (slots c.args.chosen.now c.args.shard) c.args.ids.now }

pub returns-clause-each : goal.returns-clause-each
returns-clause-each c = λ ends.
    let f = slots c.args.chosen.now c.args.shard in
    let last = c.last-last.result in
    let here : c.loop-slot.slot ≡ last = omega (arith, c.loop-slot.auto.slot-end, c.loop-slot-test.false) in
    has_ended f last c.args.ids.now c.loop-slot.ids c.add_slot-2.new.ids c.in_ok-add_slot-2.field-0 c.in_ok-add_slot-2.ensures.next c.in_ok-add_slot-2.ensures.whole (ap (batch_in c.args.chosen.now.replicas) (ends (place_of c.args.shard (last + 1)) (omega (arith, c.last-last.ensures)))) (subst (λ (n : ℕ). HasAt f n c.args.ids.now c.loop-slot.ids) here c.loop-slot.invariant.each)
