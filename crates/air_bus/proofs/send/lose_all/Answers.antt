use Rattle.std.proofs.Common.{◌≡◌, ◌∙◌, fold, take, false, subst, arith}
use Rattle.air_bus.proofs.Words.{take_all, AllTurn, AreWide, one_packet}
use Rattle.air_bus.proofs.Sending.{step_more}
use Rattle.air_bus.proofs.send.lose_all.Goals as goal

pub loop-packet-preserved : goal.loop-packet-preserved
loop-packet-preserved c =
    let i = c.loop-packet.invariant in
    let p = c.packet-item.result in
    let olds = c.args.inboxes.now.items in
    let mids = c.loop-packet.inboxes.items in
    let news = c.lose.new.inboxes.items in
    record {
      nodes = c.lose.ensures.nodes ∙ i.nodes;
      wide = subst (λ n. AreWide n news) i.nodes c.lose.ensures.wide;
      lost = λ plan kinds. step_more plan kinds c.args.from false olds mids news p c.args.packets.now c.loop-packet.packet-index
          c.loop-packet-test.true c.packet-item.is i.nodes (c.lose.ensures.lost plan kinds p.1) (i.lost plan kinds);
    }

pub returns-clause-lost : goal.returns-clause-lost
returns-clause-lost c = λ plan kinds.
    let whole : take c.loop-packet.packet-index c.args.packets.now ≡ c.args.packets.now = take_all c.loop-packet.packet-index c.args.packets.now (omega arith) in
    subst (λ ps. AllTurn c.args.inboxes.now.items c.loop-packet.inboxes.items (λ n r. fold (one_packet plan kinds n c.args.from false) r ps)) whole (c.loop-packet.invariant.lost plan kinds)
