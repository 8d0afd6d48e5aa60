use Rattle.std.proofs.Common.{rules, ◌<◌, length, true, Result, arith}
use Rattle.std.specs.Prelude.{OnOk, OnErr}
use Rattle.air_bus.proofs.Sending.{turn_one, turn_still}
use Rattle.air_bus.proofs.send.put.Goals as goal

pub on_ok : {T E : Type 0} (r : Result T E) (P Q : Type 0) → OnOk r P → (P → Q) → OnOk r Q
on_ok h k e p f = grind arith

pub on_err : {T E : Type 0} (r : Result T E) (P Q : Type 0) → OnErr r P → (P → Q) → OnErr r Q
on_err h k e p f = grind arith

pub returns-clause-ok : goal.returns-clause-ok
returns-clause-ok c =
    let olds = c.args.inboxes.now.items in
    let below : c.from-at.result < length olds = search rules in
    on_ok c.receive.result _ _ c.receive.ensures.ok
    (turn_one c.args.links.now.plan c.args.links.now.kinds.items c.args.from true olds c.from-at.result c.args.packet.now c.index_mut.result.now c.receive.new.self c.from-at.ensures below c.index_mut.ensures.value)

pub returns-clause-err : goal.returns-clause-err
returns-clause-err c =
    let olds = c.args.inboxes.now.items in
    let below : c.from-at.result < length olds = search rules in
    on_err c.receive.result _ _ c.receive.ensures.err (turn_still olds c.from-at.result c.index_mut.result.now c.receive.new.self below c.index_mut.ensures.value)
