-- What is heard of a run: its history, and what was seen and made with each seat.
use Rattle.std.specs.Prelude.{◌≡◌, ◌≤◌, ℕ, List, [], ◌∷◌, ◌++◌, map, length, Option, Some, None}
use Rattle.std.specs.List.{All, range_with_len}
use Rattle.lossy_link.specs.declared.plan.Kind.{Kind}
use Rattle.lossy_link.specs.Fates.{PlanView}
use Rattle.air_bus.specs.History.{Flight, IsAired}
use Rattle.bus_seat.specs.Views.{made_by}
use Rattle.bus_seat.specs.Seats.{Sight, IsIn}

-- the numbers of the seats of so many nodes: each node's in their order, and the run's last, which has none
abbrev pub seat_numbers : ℕ → List (Option ℕ)
seat_numbers nodes = map Some (range_with_len 0 nodes) ++ None ∷ []

-- Nodes of these kinds ran under this plan. Each entry of the history is one that the bus may add there: a packet that a node took
-- is the next of those that the plan leaves of what was sent to it, and a dead replica has no entry; nor has a number that is no
-- node's. There is a list for each seat; the history begins with all that was seen with it, and has of its number just what was
-- made with it.
pub record IsHeard (plan : PlanView) (kinds : List Kind) (air : Flight) (seen : List Sight) : Type 0 where
  pub flight : air ≡ record { kinds = kinds; plan = plan; history = air.history }
  pub aired : IsAired plan kinds air.history
  pub others : (n : ℕ) → length kinds ≤ n → made_by n air.history ≡ []
  pub seats : map (λ s. s.number) seen ≡ seat_numbers (length kinds)
  pub lists : All (IsIn air.history) seen
