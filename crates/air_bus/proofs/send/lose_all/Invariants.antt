use Rattle.std.proofs.Common.{◌≡◌, List, fold, length, take, false}
use Rattle.air_bus.proofs.Words.{Kind, PlanView, AllTurn, AreWide, one_packet}
use Rattle.air_bus.proofs.send.lose_all.Given as goal

abbrev pub invariant-loop-packet : goal.invariant-loop-packet
invariant-loop-packet l = record {
  nodes : length l.inboxes.items ≡ length l.initial.inboxes.items;
  wide : AreWide (length l.initial.inboxes.items) l.inboxes.items;
  lost : (plan : PlanView) (kinds : List Kind) → AllTurn l.initial.inboxes.items l.inboxes.items (λ n r. fold (one_packet plan kinds n l.from false) r (take l.packet-index l.packets));
}
