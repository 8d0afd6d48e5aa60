use Rattle.std.proofs.Common.{◌≡◌, ℕ, ◌<◌, length, get_or}
use Rattle.air_bus.proofs.Words.{Inbox, Keeps, nothing}
use Rattle.air_bus.proofs.nodes.empty_inboxes.Given as goal

abbrev pub invariant-loop : goal.invariant-loop
invariant-loop l = record {
  many : length l.inboxes.items ≡ l.counter;
  empty : (n : ℕ) (d : Inbox) → n < l.counter → Keeps l.nodes (get_or l.inboxes.items n d) nothing;
}
