-- What the bus keeps where a dispatcher comes up.
use Rattle.std.specs.Prelude.{◌≡◌, ℕ, ◌==◌, false, List, [], ◌∷◌, if◌then◌else◌, Some, None}
use Rattle.site_laws.specs.Terms.{Begin, BusEntry, Disks, Dispatcher, DispatcherKept, DispatcherLive, End, Entry, IsAired, IsRun, Joiner, Kind, Node, Path, PlanView, Replica, Server, State, dispatcher_start, empty_disks, is_dead, opening, worked}
use Rattle.air_bus.specs.declared.entry.Input.TheVariants as bytes
use Rattle.air_bus.specs.declared.entry.Entry.TheVariants as bus
use Rattle.turn_defs.specs.declared.node.Input.TheVariants.{Start}
use Rattle.site_laws.specs.Kinds.{StateOf, rows_of, down_over}
use Rattle.site_laws.specs.Meaning.{AllMean}
use Rattle.site_laws.specs.Laws.{EachWalked}

-- a turn that starts dispatcher 0, and its end
abbrev pub on_the_bus : List BusEntry
on_the_bus = bus.Begin 0 bytes.Start ∷ bus.End 0 None [] 0 ∷ []

abbrev pub in_the_model : List Entry
in_the_model = Begin (Dispatcher 0) Start ∷ End (Dispatcher 0) None [] 0 ∷ []

-- dispatcher 0 is up, and all others are down
abbrev pub up_dispatcher : State DispatcherKept DispatcherLive
up_dispatcher = record {
  setting = worked;
  kept = empty_disks.dispatchers 0;
  live = Some (dispatcher_start (empty_disks.dispatchers 0)).live;
  opened = None;
}

abbrev pub stands_at : (n : Node) → StateOf n
stands_at (Dispatcher s) = if s == 0 then up_dispatcher else down_over worked empty_disks (Dispatcher s)
stands_at (Server s) = down_over worked empty_disks (Server s)
stands_at (Replica r) = down_over worked empty_disks (Replica r)
stands_at (Joiner j) = down_over worked empty_disks (Joiner j)

-- An Air may make this history of a node that isn't dead, its node's entries lead there, and this is the run that it means.
pub record DispatcherComesUp : Type 0 where
  pub aired : (plan : PlanView) (kinds : List Kind) → is_dead plan.dead kinds 0 ≡ false → IsAired plan kinds on_the_bus
  pub walked : EachWalked worked empty_disks on_the_bus stands_at
  pub means : AllMean worked on_the_bus in_the_model
  pub run : IsRun worked (opening empty_disks) in_the_model

-- no entries that begin so lead a node on that is down
abbrev pub LeadsNowhere : BusEntry → Type 0
LeadsNowhere e =
    (n : Node) (d : Disks) (es : List BusEntry) (t : StateOf n) → Path (rows_of n) (down_over worked d n) (e ∷ es) t → ⊥

-- A node that is down ends no turn, and begins none but by Start.
pub record DownIsStrict : Type 0 where
  pub no_end : (m : ℕ) → LeadsNowhere (bus.End m None [] 0)
  pub no_tick : (m : ℕ) → LeadsNowhere (bus.Begin m bytes.Tick)
