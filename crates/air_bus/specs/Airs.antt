-- What always holds of an Air's parts.
use Rattle.std.specs.Prelude.{◌≡◌, ℕ, ◌+◌, ◌<◌, ◌^◌, List, length, slice_index_or, sum_by}
use Rattle.lossy_link.specs.declared.plan.Kind.{Kind}
use Rattle.lossy_link.specs.Fates.{PlanView}
use Rattle.air_bus.specs.declared.entry.Entry.{Entry}
use Rattle.air_bus.specs.declared.entry.Phase.{Phase}
use Rattle.air_bus.specs.declared.entry.Phase.TheVariants.{Down, Busy}
use Rattle.air_bus.specs.declared.inbox.Inbox.{Inbox}
use Rattle.air_bus.specs.Inboxes.{Keeps}
use Rattle.air_bus.specs.Waiting.{received}
use Rattle.air_bus.specs.History.{phase, IsAired}

-- 1 where it stands in an open turn
abbrev pub open_of : Phase → ℕ
open_of Busy = 1
open_of _ = 0

-- each node's phase and inbox are those of the history, and it is short even where each open turn is closed
pub record Agrees (plan : PlanView) (kinds : List Kind) (phases : List Phase) (open_turns : ℕ) (inboxes : List Inbox) (h : List Entry) : Type 0 where
  pub phase_each : (n : ℕ) → slice_index_or phases n Down ≡ phase n h
  pub phase_many : length phases ≡ length kinds
  pub counted : sum_by open_of phases ≡ open_turns
  pub closes : length h + open_turns < 2 ^ 63
  pub many : length inboxes ≡ length kinds
  pub inbox_each : (n : ℕ) (d : Inbox) → n < length kinds → Keeps (length kinds) (slice_index_or inboxes n d) (received plan kinds n h)
  pub aired : IsAired plan kinds h
