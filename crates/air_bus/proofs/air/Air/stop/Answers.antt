use Rattle.std.proofs.Common.{◌≡◌, ◌-◌, ◌<◌, length, refl, ap, ◌∙◌, arith}
use Rattle.air_bus.proofs.Words.{Stop, Down, Busy, open_of, phase}
use Rattle.air_bus.proofs.Phases.{busy_counts}
use Rattle.air_bus.proofs.Agreeing.{agrees_more}
use Rattle.air_bus.proofs.air.Air.stop.Goals as goal

pub invariant_of-self : goal.invariant_of-self
invariant_of-self c =
    let a = c.self.inside in
    let h = a.history in
    let kinds = a.links.kinds.items in
    let ps = a.phases.items in
    let may : phase c.args.node h ≡ Busy = ap (phase c.args.node) (ap (λ f. f.history) c.self.view_is) ∙ c.requires.busy in
    let inside : c.args.node < length kinds = omega (arith, ap length (ap (λ f. f.kinds) c.self.view_is), c.requires.node) in
    let below : c.args.node < length ps = omega (arith, inside, c.self.invariant.phase_many) in
    let some = busy_counts ps c.args.node below (c.self.invariant.phase_each c.args.node ∙ may) in
    let opened = ap open_of may in
    agrees_more a.links.plan kinds ps a.busy a.inboxes.items h c.self.invariant
    (Stop c.args.node c.args.landed) c.from.result Down (a.busy - 1) a.inboxes.items c.add.new.self
    c.from.ensures inside refl (omega (arith, opened, some, c.self.invariant.counted)) (omega (arith, some, c.self.invariant.counted, c.self.invariant.closes))
    c.add.ensures may refl (λ n d below nodes r k. k)
