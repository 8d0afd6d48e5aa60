use Rattle.std.proofs.Common.{◌≡◌, ◌≢◌, ◌+◌, ◌<◌, false, length, Some, refl, sym, ap, ◌∙◌, arith}
use Rattle.air_bus.proofs.Words.{Begin, Busy, next_copy, waiting, is_dead, phase, next_input, input_of}
use Rattle.air_bus.proofs.Phases.{not_open}
use Rattle.air_bus.proofs.Agreeing.{agrees_same, agrees_more, chosen_is, begin_turn}
use Rattle.air_bus.proofs.air.Air.begin.Goals as goal

pub invariant_of-self : goal.invariant_of-self
invariant_of-self c =
    let a = c.self.inside in
    agrees_same a.links.plan a.links.kinds.items a.phases.items a.busy a.inboxes.items a.history c.self.invariant
    c.choose.new.inboxes.items c.choose.ensures.many c.choose.ensures.same

pub invariant_of-self-in_err-noted : goal.invariant_of-self-in_err-noted
invariant_of-self-in_err-noted c =
    let a = c.self.inside in
    agrees_same a.links.plan a.links.kinds.items a.phases.items a.busy a.inboxes.items a.history c.self.invariant
    c.choose.new.inboxes.items c.choose.ensures.many c.choose.ensures.same

pub invariant_of-self-in-None : goal.invariant_of-self-in-None
invariant_of-self-in-None c =
    let a = c.self.inside in
    agrees_same a.links.plan a.links.kinds.items a.phases.items a.busy a.inboxes.items a.history c.self.invariant
    c.choose.new.inboxes.items c.choose.ensures.many c.choose.ensures.same

pub returns-in-None-clause-answer : goal.returns-in-None-clause-answer
returns-in-None-clause-answer c =
    let a = c.self.inside in
    let inside : c.args.node < length a.links.kinds.items = omega (arith, ap length (ap (λ f. f.kinds) c.self.view_is), c.requires.node) in
    sym c.in-None.is
    ∙ chosen_is a.links.plan a.links.kinds.items a.phases.items a.busy a.inboxes.items a.history c.self.invariant
    c.from-at.result c.args.node c.index-phase.result.now c.args.tick c.args.wants c.in_ok-chosen.chosen c.from-at.ensures inside c.index-phase.ensures c.in_ok-chosen.ensures.answer
    ∙ ap (λ f. input_of f c.args.node c.args.tick c.args.wants) c.self.view_is

pub returns-clause-answer : goal.returns-clause-answer
returns-clause-answer c =
    let a = c.self.inside in
    let inside : c.args.node < length a.links.kinds.items = omega (arith, ap length (ap (λ f. f.kinds) c.self.view_is), c.requires.node) in
    sym c.in-Some.is
    ∙ chosen_is a.links.plan a.links.kinds.items a.phases.items a.busy a.inboxes.items a.history c.self.invariant
    c.from-at.result c.args.node c.index-phase.result.now c.args.tick c.args.wants c.in_ok-chosen.chosen c.from-at.ensures inside c.index-phase.ensures c.in_ok-chosen.ensures.answer
    ∙ ap (λ f. input_of f c.args.node c.args.tick c.args.wants) c.self.view_is

pub invariant_of-self-2 : goal.invariant_of-self-2
invariant_of-self-2 c =
    let a = c.self.inside in
    let plan = a.links.plan in
    let kinds = a.links.kinds.items in
    let h = a.history in
    let noted = c.in_ok-noted.noted in
    let closed : phase c.args.node h ≢ Busy = λ busy. c.requires.closed (sym (ap (phase c.args.node) (ap (λ f. f.history) c.self.view_is)) ∙ busy) in
    let inside : c.args.node < length kinds = omega (arith, ap length (ap (λ f. f.kinds) c.self.view_is), c.requires.node) in
    let same : noted ≡ c.in-Some.input = c.in_ok-noted.ensures in
    let had : next_input (phase c.args.node h) (next_copy (waiting plan kinds c.args.node h)) c.args.tick c.args.wants ≡ Some noted =
    sym (chosen_is plan kinds a.phases.items a.busy a.inboxes.items h c.self.invariant
    c.from-at.result c.args.node c.index-phase.result.now c.args.tick c.args.wants c.in_ok-chosen.chosen c.from-at.ensures inside c.index-phase.ensures c.in_ok-chosen.ensures.answer)
    ∙ c.in-Some.is ∙ ap Some (sym same) in
    let live : is_dead plan.dead kinds c.args.node ≡ false = ap (λ f. is_dead f.plan.dead f.kinds c.args.node) c.self.view_is ∙ c.requires.live in
    let none-open = not_open (phase c.args.node h) closed in
    agrees_more plan kinds a.phases.items a.busy a.inboxes.items h c.self.invariant
    (Begin c.args.node noted) c.from-at.result Busy (a.busy + 1) c.leave.new.inboxes.items c.add.new.self
    c.from-at.ensures inside refl (omega (arith, none-open))
    (omega (arith, c.if-len-self-gt-MOST_ENTRIES.false, c.len.ensures))
    c.add.ensures
    (closed, (c.args.tick, c.args.wants, had), live) (c.leave.ensures.many ∙ c.choose.ensures.many)
    (begin_turn plan kinds a.inboxes.items c.choose.new.inboxes.items c.leave.new.inboxes.items c.from-at.result c.args.node c.in-Some.input noted c.from-at.ensures same c.choose.ensures.many c.choose.ensures.same c.leave.ensures.taken)
