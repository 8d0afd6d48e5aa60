-- What a contract sees of a bus and of a seat.
use Rattle.std.specs.Prelude.{◌≡◌, ℕ, zero, suc, ◌<◌, map, Bool, false, List, [], ◌∷◌, ◌++◌, Option, None, Some, MatchOption, IfSome}
use mathlib.Core.List.{IsPrefix}
use Rattle.atomic_table.specs.Seated.{TableId}
use Rattle.air_bus.specs.declared.entry.Entry.{Entry}
use Rattle.air_bus.specs.declared.entry.Entry.TheVariants.{Begin}
use Rattle.air_bus.specs.declared.entry.Input.{Input}
use Rattle.air_bus.specs.Copies.{Copy, next_copy}
use Rattle.air_bus.specs.Waiting.{waiting, is_dead}
use Rattle.air_bus.specs.History.{Flight, phase, next_input}
use Rattle.bus_seat.specs.declared.view.View.{View}
use Rattle.bus_seat.specs.declared.view.Ended.{Ended}
use Rattle.bus_seat.specs.Views.{count, made_by, Sat, own}

-- which bus it is, and the Air that it was made with
pub record BusId : Type 0 where
  pub table : TableId
  pub base : Flight

abbrev pub bus_id : TableId → Flight → BusId
bus_id table base = record { table = table; base = base }

pub record Sight : Type 0 where
  pub bus : BusId
  pub number : Option ℕ
  pub seen : List Entry
  pub mine : List Entry

abbrev pub sight : TableId → View → Sight
sight table v = record { bus = bus_id table v.base; number = v.number; seen = v.seen; mine = v.mine }

-- the view and hand of a seat between two calls: it has no turn, no slot and no seat joined into it
pub record IsAtRest (base : Flight) (m : Sat) : Type 0 where
  pub hand : m.1 ≡ []
  pub live : m.0.spent ≡ false
  pub based : m.0.base ≡ base
  pub off : m.0.turn ≡ false
  pub alone : m.0.ended ≡ []
  pub role : MatchOption m.0.number (m.0.next ≡ Some (count base)) (λ n. (m.0.next ≡ None) × (n < count base))

-- a call added e: what is seen ends with it, and mine grew by just that
abbrev pub Adds : Sight → Entry → Sight → Type 0
Adds v e w = (since : List Entry) × (w.seen ≡ (v.seen ++ since) ++ e ∷ []) × (w.mine ≡ v.mine ++ e ∷ [])

-- a call added nothing
abbrev pub Looks : Sight → Sight → Type 0
Looks v w = IsPrefix v.seen w.seen × (w.mine ≡ v.mine)

-- a seat of the bus that has seen and made nothing
abbrev pub fresh : BusId → Option ℕ → Sight
fresh bus number = record { bus = bus; number = number; seen = []; mine = [] }

-- one for each of the first n nodes
abbrev pub fresh_to : BusId → ℕ → List Sight
fresh_to bus zero = []
fresh_to bus (suc n) = fresh_to bus n ++ fresh bus (Some n) ∷ []

-- one for each node, and the run's last
abbrev pub fresh_seats : BusId → List Sight
fresh_seats bus = fresh_to bus (count bus.base) ++ fresh bus None ∷ []

-- the seat is of a node that takes part in the run: no dead replica
abbrev pub TakesPart : Sight → Type 0
TakesPart s = MatchOption s.number ⊥ (λ n. is_dead s.bus.base.plan.dead s.bus.base.kinds n ≡ false)

-- whose seat it is
abbrev pub tag : Sight → BusId × Option ℕ
tag s = (s.bus, s.number)

-- these are the seats of the bus, each once, in the order of `fresh_seats`
abbrev pub AreSeatsOf : BusId → List Sight → Type 0
AreSeatsOf bus seats = map tag seats ≡ map tag (fresh_seats bus)

-- the history begins with all that was seen with the seat, and has of its number just what was made with it
abbrev pub IsIn : List Entry → Sight → Type 0
IsIn history s = IsPrefix s.seen history × IfSome s.number (λ n. made_by n history ≡ s.mine)

-- what seats leave in the one that they are joined into
abbrev pub ends : List Sight → List Ended
ends [] = []
ends (s ∷ ss) = own s.number s.seen s.mine ++ ends ss

-- a view into which these seats were joined
abbrev pub gathered : View → List Sight → View
gathered v ss = record v { ended = v.ended ++ ends ss }

-- the packet that node n takes next after these entries, if one waits for it
abbrev pub next_for : Flight → ℕ → List Entry → Option Copy
next_for base n h = next_copy (waiting base.plan base.kinds n h)

-- what a turn of node n begins with where its own entries are mine, after these entries
abbrev pub next_of : Sight → ℕ → Bool → Bool → List Entry → Option Input
next_of v n tick wants h = next_input (phase n v.mine) (next_for v.bus.base n h) tick wants

-- what `begin` did for node n: nothing, where it had nothing to take after all that was then seen; else the entry, with
-- what it had to take just before
abbrev pub Begins : ℕ → Bool → Bool → Sight → Option Input → Sight → Type 0
Begins n wants tick v input w =
    MatchOption
    input
    (Looks v w × (next_of v n tick wants w.seen ≡ None))
    (λ i. (since : List Entry) × (w.seen ≡ (v.seen ++ since) ++ Begin n i ∷ []) × (w.mine ≡ v.mine ++ Begin n i ∷ []) × (next_of v n tick wants (v.seen ++ since) ≡ Some i))
