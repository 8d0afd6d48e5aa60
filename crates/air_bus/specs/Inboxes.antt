-- What an inbox keeps of what a node was sent.
use Rattle.std.specs.Prelude.{◌≡◌, ℕ, ◌<◌, ◌^◌, ◌-◌, min, List, length, slice_index, slice_index_or}
use Rattle.std.specs.List.{All}
use Rattle.air_bus.specs.declared.inbox.Inbox.{Inbox}
use Rattle.air_bus.specs.Queues.{Holds}
use Rattle.air_bus.specs.Waiting.{Received, ordinal}

-- the copies that wait, and for each of so many nodes how many packets it sent; a count stands still at its type's end
pub record Keeps (nodes : ℕ) (i : Inbox) (r : Received) : Type 0 where
  pub width : length i.sent.items ≡ nodes
  pub counted : (k : ℕ) → k < nodes → slice_index i.sent.items k ≡ min (ordinal k r) (2 ^ 64 - 1)
  pub queued : Holds i.queue r.copies

-- whatever the old inbox kept, the new one keeps what the change makes of it
abbrev pub Turns : Inbox → Inbox → (Received → Received) → Type 0
Turns old new change = (nodes : ℕ) (r : Received) → Keeps nodes old r → Keeps nodes new (change r)

-- the same of the inbox of each node, the change going by the node
abbrev pub AllTurn : List Inbox → List Inbox → (ℕ → Received → Received) → Type 0
AllTurn olds news change = (n : ℕ) (d : Inbox) → n < length olds → Turns (slice_index_or olds n d) (slice_index_or news n d) (change n)

-- each inbox counts the packets of so many nodes
abbrev pub AreWide : ℕ → List Inbox → Type 0
AreWide nodes is = All (λ (i : Inbox). length i.sent.items ≡ nodes) is
