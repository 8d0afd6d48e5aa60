use Rattle.std.proofs.Common.{◌<◌, Bool, cond, Option, None, ap, ◌∙◌, arith}
use Rattle.std.specs.BTreeMap.{get}
use Rattle.registry_state.specs.declared.Token.{Token}
use Rattle.id_expiry.specs.Times.{of_id, by_time}
use Rattle.id_expiry.proofs.Tokens.{apart}
use Rattle.id_expiry.proofs.timed.drop_below.Goals as goal

pub loop-timed-preserved : goal.loop-timed-preserved
loop-timed-preserved c = λ i late.
    let t = c.in-Some.timed in
    let below : t.micros < i.micros = omega (arith, c.in-Some.ensures.below, late) in
    c.remove.ensures.updates.0 (of_id i) ∙ ap (λ (b : Bool). cond {A = Option Token} b None (get by_time c.loop-timed.held (of_id i))) (apart t i below) ∙ c.loop-timed.invariant i late
