use Rattle.std.proofs.Common.{◌-◌, length, get_or, fold, take, drop, true, false, sym, subst, arith, length-drop}
use Rattle.air_bus.proofs.Words.{take_all, Keeps, one_packet}
use Rattle.air_bus.proofs.Sending.{puts_split}
use Rattle.air_bus.proofs.send.send.Goals as goal

pub returns-clause-sent : goal.returns-clause-sent
returns-clause-sent c = λ n d below nodes r k.
    let plan = c.args.links.now.plan in
    let kinds = c.args.links.now.kinds.items in
    let kept = c.put_first-kept.result in
    let first = c.put_first-kept.ensures.sent n d below nodes r k in
    let rest = c.lose_all.ensures.lost plan kinds n d (omega (arith, below, c.put_first-kept.ensures.nodes)) nodes (fold (one_packet plan kinds n c.args.from true) r (take kept c.args.packets.now)) first in
    subst (Keeps nodes (get_or c.lose_all.new.inboxes.items n d)) (sym (puts_split plan kinds n c.args.from c.args.packets.now kept r))
    (subst (λ ps. Keeps nodes (get_or c.lose_all.new.inboxes.items n d) (fold (one_packet plan kinds n c.args.from false) (fold (one_packet plan kinds n c.args.from true) r (take kept c.args.packets.now)) ps))
    (take_all (length c.args.packets.now - kept) (drop kept c.args.packets.now) (omega (arith, length-drop kept c.args.packets.now))) rest)
