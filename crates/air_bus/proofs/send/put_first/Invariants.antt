use Rattle.std.proofs.Common.{◌≡◌, fold, length, take, true}
use Rattle.air_bus.proofs.Words.{AllTurn, AreWide, one_packet}
use Rattle.air_bus.proofs.send.put_first.Given as goal

abbrev pub invariant-loop-packet : goal.invariant-loop-packet
invariant-loop-packet l = record {
  kept : l.kept ≡ l.packet-index;
  nodes : length l.inboxes.items ≡ length l.initial.inboxes.items;
  wide : AreWide (length l.links.kinds.items) l.inboxes.items;
  sent : AllTurn l.initial.inboxes.items l.inboxes.items (λ n r. fold (one_packet l.links.plan l.links.kinds.items n l.from true) r (take l.packet-index l.packets));
}
