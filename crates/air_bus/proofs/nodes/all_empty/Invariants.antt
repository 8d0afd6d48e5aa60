use Rattle.std.proofs.Common.{◌≡◌, ℕ, ◌<◌, length, get_or, []}
use Rattle.air_bus.proofs.Words.{Inbox, Keeps, Received}
use Rattle.air_bus.proofs.nodes.all_empty.Given as goal

abbrev pub invariant-loop-inbox : goal.invariant-loop-inbox
invariant-loop-inbox l = (nodes : ℕ) (copies : ℕ → Received) → ((n : ℕ) (d : Inbox) → n < length l.inboxes → Keeps nodes (get_or l.inboxes n d) (copies n))
    → (n : ℕ) → n < l.inbox-index → (copies n).copies ≡ []
