use Rattle.std.proofs.Common.{rules, ◌<◌, length, false}
use Rattle.air_bus.proofs.Sending.{turn_one}
use Rattle.air_bus.proofs.send.lose.Goals as goal

pub returns-clause-lost : goal.returns-clause-lost
returns-clause-lost c = λ plan kinds bytes.
    let olds = c.args.inboxes.now.items in
    let below : c.from-at.result < length olds = search rules in
    turn_one plan kinds c.args.from false olds c.from-at.result (c.args.to, bytes) c.index_mut.result.now c.lose.new.self c.from-at.ensures below c.index_mut.ensures.value (c.lose.ensures.lost plan kinds c.args.to bytes)
