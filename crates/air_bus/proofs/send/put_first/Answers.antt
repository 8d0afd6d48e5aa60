use Rattle.std.proofs.Common.{◌∙◌, fold, take, true, sym, subst, arith}
use Rattle.air_bus.proofs.Words.{AllTurn, one_packet}
use Rattle.air_bus.proofs.Sending.{step_more, turn_back}
use Rattle.air_bus.proofs.send.put_first.Goals as goal

pub loop-packet-preserved : goal.loop-packet-preserved
loop-packet-preserved c =
    let i = c.loop-packet.invariant in
    let p = c.packet-item.result in
    record {
      kept = omega (arith, i.kept);
      nodes = c.put.ensures.nodes ∙ i.nodes;
      wide = c.put.ensures.wide;
      sent = step_more c.args.links.now.plan c.args.links.now.kinds.items c.args.from true c.args.inboxes.now.items c.loop-packet.inboxes.items c.put.new.inboxes.items p c.args.packets.now c.loop-packet.packet-index
          c.loop-packet-test.true c.packet-item.is i.nodes c.in-Ok.ensures.ok i.sent;
    }

pub returns-then-kept-clause-sent : goal.returns-then-kept-clause-sent
returns-then-kept-clause-sent c =
    subst (λ k. AllTurn c.args.inboxes.now.items c.loop-packet.inboxes.items (λ n r. fold (one_packet c.args.links.now.plan c.args.links.now.kinds.items n c.args.from true) r (take k c.args.packets.now)))
    (sym c.loop-packet.invariant.kept) c.loop-packet.invariant.sent

pub returns-clause-sent : goal.returns-clause-sent
returns-clause-sent c =
    subst (λ k. AllTurn c.args.inboxes.now.items c.loop-packet.inboxes.items (λ n r. fold (one_packet c.args.links.now.plan c.args.links.now.kinds.items n c.args.from true) r (take k c.args.packets.now)))
    (sym c.loop-packet.invariant.kept) c.loop-packet.invariant.sent

pub returns-in-Err-clause-sent : goal.returns-in-Err-clause-sent
returns-in-Err-clause-sent c =
    let i = c.loop-packet.invariant in
    subst (λ k. AllTurn c.args.inboxes.now.items c.put.new.inboxes.items (λ n r. fold (one_packet c.args.links.now.plan c.args.links.now.kinds.items n c.args.from true) r (take k c.args.packets.now)))
    (sym i.kept) (turn_back c.args.inboxes.now.items c.loop-packet.inboxes.items c.put.new.inboxes.items
    (λ n r. fold (one_packet c.args.links.now.plan c.args.links.now.kinds.items n c.args.from true) r (take c.loop-packet.packet-index c.args.packets.now)) i.nodes c.in-Err.ensures.err i.sent)
