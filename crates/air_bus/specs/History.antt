-- Histories of turns, and what an Air may add to one.
use Rattle.std.specs.Prelude.{◌≡◌, ◌≢◌, ℕ, ◌<◌, ◌≤◌, ◌==◌, Bool, false, List, [], ◌∷◌, ◌++◌, length, fold, Option, Some, option_map, if◌then◌else◌}
use Rattle.lossy_link.specs.declared.plan.Kind.{Kind}
use Rattle.lossy_link.specs.Fates.{PlanView}
use Rattle.air_bus.specs.declared.entry.Input.{Input}
use Rattle.air_bus.specs.declared.entry.Input.TheVariants.{Start}
use Rattle.air_bus.specs.declared.entry.Entry.{Entry}
use Rattle.air_bus.specs.declared.entry.Entry.TheVariants.{Begin, End, Stop}
use Rattle.air_bus.specs.declared.entry.Phase.{Phase}
use Rattle.air_bus.specs.declared.entry.Phase.TheVariants.{Down, Idle, Busy}
use Rattle.air_bus.specs.Copies.{Copy, next_copy}
use Rattle.air_bus.specs.Inputs.{packet_input, or_other}
use Rattle.air_bus.specs.Waiting.{waiting, is_dead}

-- what contracts see of an Air: the kinds of its nodes, its plan, and what happened
pub record Flight : Type 0 where
  pub kinds : List Kind
  pub plan : PlanView
  pub history : List Entry

abbrev pub node_of : Entry → ℕ
node_of (Begin node input) = node
node_of (End node noted packets kept) = node
node_of (Stop node landed) = node

abbrev pub is_of : ℕ → Entry → Bool
is_of n e = node_of e == n

abbrev pub phase_after : Entry → Phase
phase_after (Begin node input) = Busy
phase_after (End node noted packets kept) = Idle
phase_after (Stop node landed) = Down

abbrev pub phase_step : ℕ → Phase → Entry → Phase
phase_step n p e = if is_of n e then phase_after e else p

-- where a node stands after a history; at first it is down
abbrev pub phase : ℕ → List Entry → Phase
phase n h = fold (phase_step n) Down h

-- what a turn begins with on a node that stands so and has this copy next
abbrev pub next_input : Phase → Option Copy → Bool → Bool → Option Input
next_input Down next tick wants = Some Start
next_input _ next tick wants = or_other (option_map packet_input next) tick wants

-- what a turn of the node begins with after the flight so far
abbrev pub input_of : Flight → ℕ → Bool → Bool → Option Input
input_of f n tick wants = next_input (phase n f.history) (next_copy (waiting f.plan f.kinds n f.history)) tick wants

-- one entry more, and nothing else
abbrev pub adds : Flight → Entry → Flight
adds f e = record f { history = f.history ++ e ∷ [] }

-- each node that isn't dead is up with no open turn, and nothing waits
pub record IsQuiet (f : Flight) : Type 0 where
  pub idle : (n : ℕ) → n < length f.kinds → is_dead f.plan.dead f.kinds n ≡ false → phase n f.history ≡ Idle
  pub empty : (n : ℕ) → n < length f.kinds → waiting f.plan f.kinds n f.history ≡ []

-- An entry that an Air may add after these: a turn begins on a node that isn't dead and has no open turn, with what it has to
-- take, and is closed once.
abbrev pub MayFollow : PlanView → List Kind → List Entry → Entry → Type 0
MayFollow plan kinds before (Begin node input) =
    (phase node before ≢ Busy)
    × ((tick : Bool) × (wants : Bool) × (next_input (phase node before) (next_copy (waiting plan kinds node before)) tick wants ≡ Some input))
    × (is_dead plan.dead kinds node ≡ false)
MayFollow plan kinds before (End node noted packets kept) = (phase node before ≡ Busy) × (kept ≤ length packets)
MayFollow plan kinds before (Stop node landed) = phase node before ≡ Busy

-- each entry may follow those before it
pub record IsAired (plan : PlanView) (kinds : List Kind) (h : List Entry) : Type 0 where
  pub follows : (before after : List Entry) (e : Entry) → h ≡ before ++ e ∷ after → MayFollow plan kinds before e
