use Rattle.std.proofs.Common.{◌≡◌, ◌-◌, ◌<◌, ◌≤◌, length, refl, ap, ◌∙◌, subst, arith}
use Rattle.air_bus.proofs.Words.{End, Idle, Busy, open_of, AllTurn, puts, phase}
use Rattle.air_bus.proofs.Phases.{busy_counts}
use Rattle.air_bus.proofs.Agreeing.{agrees_more}
use Rattle.air_bus.proofs.air.Air.end.Goals as goal

pub invariant_of-self : goal.invariant_of-self
invariant_of-self c =
    let a = c.self.inside in
    let h = a.history in
    let plan = a.links.plan in
    let kinds = a.links.kinds.items in
    let ps = a.phases.items in
    let kept = c.send-kept.result in
    let may : phase c.args.node h ≡ Busy = ap (phase c.args.node) (ap (λ f. f.history) c.self.view_is) ∙ c.requires.busy in
    let inside : c.args.node < length kinds = omega (arith, ap length (ap (λ f. f.kinds) c.self.view_is), c.requires.node) in
    let below : c.args.node < length ps = omega (arith, inside, c.self.invariant.phase_many) in
    let some = busy_counts ps c.args.node below (c.self.invariant.phase_each c.args.node ∙ may) in
    let opened = ap open_of may in
    let few : kept ≤ length c.args.packets = omega (arith, c.send-kept.ensures.kept, ap length c.as_slice.ensures) in
    let sent = subst (λ packets. AllTurn a.inboxes.items c.send-kept.new.inboxes.items (λ n. puts plan kinds n c.args.node packets kept)) c.as_slice.ensures c.send-kept.ensures.sent in
    agrees_more plan kinds ps a.busy a.inboxes.items h c.self.invariant
    (End c.args.node c.args.note c.args.packets kept) c.from.result Idle (a.busy - 1) c.send-kept.new.inboxes.items c.add.new.self
    c.from.ensures inside refl (omega (arith, opened, some, c.self.invariant.counted)) (omega (arith, some, c.self.invariant.counted, c.self.invariant.closes))
    c.add.ensures (may, few) c.send-kept.ensures.nodes sent
