-- Worked rows: what waits for a node, and what its turn begins with.
use Rattle.std.specs.Prelude.{◌≡◌, ℕ, List, [], ◌∷◌, ◌++◌, Option, Some, None, Bool, true, false}
use Rattle.lossy_link.specs.declared.plan.Kind.{Kind}
use Rattle.lossy_link.specs.declared.plan.Kind.TheVariants.{Server, Joiner, Replica}
use Rattle.lossy_link.specs.declared.plan.Fate.{Fate}
use Rattle.lossy_link.specs.declared.plan.Fate.TheVariants as fate
use Rattle.lossy_link.specs.declared.plan.Rule.{Rule}
use Rattle.lossy_link.specs.Fates.{PlanView}
use Rattle.air_bus.specs.declared.entry.Input.{Input}
use Rattle.air_bus.specs.declared.entry.Input.TheVariants.{Start, Tick, Own, Packet}
use Rattle.air_bus.specs.declared.entry.Entry.{Entry}
use Rattle.air_bus.specs.declared.entry.Entry.TheVariants.{Begin, End, Stop}
use Rattle.air_bus.specs.Copies.{Copy, copy, next_copy, left_by}
use Rattle.air_bus.specs.Waiting.{waiting}
use Rattle.air_bus.specs.History.{input_of}

-- ---- copies

pub record CopiesAreTaken : Type 0 where
  pub first_of_least : next_copy (copy 2 0 (11 ∷ []) ∷ copy 0 0 (10 ∷ []) ∷ copy 1 0 (12 ∷ []) ∷ []) ≡ Some (copy 0 0 (10 ∷ []))
  pub lessened : left_by (copy 2 0 (11 ∷ []) ∷ copy 0 0 (10 ∷ []) ∷ copy 1 0 (12 ∷ []) ∷ []) ≡ copy 1 0 (11 ∷ []) ∷ copy 0 0 (12 ∷ []) ∷ []
  pub late_one : next_copy (copy 2 0 (11 ∷ []) ∷ copy 1 3 (12 ∷ []) ∷ copy 1 0 (13 ∷ []) ∷ []) ≡ Some (copy 1 3 (12 ∷ []))
  pub none_negative : left_by (copy 0 0 (1 ∷ []) ∷ copy 0 0 (2 ∷ []) ∷ []) ≡ copy 0 0 (2 ∷ []) ∷ []
  pub none : next_copy [] ≡ None

-- ---- what waits

-- a server, a joiner and two replicas
abbrev pub four : List Kind
four = Server ∷ Joiner ∷ Replica ∷ Replica ∷ []

abbrev pub plan_of : List Rule → Option ℕ → PlanView
plan_of rules dead = record { rules = rules; stops = []; dead = dead }

-- the first so many packets of each link have this fate
abbrev pub first_ones : ℕ → Fate → Rule
first_ones count f = record { from = None; to = None; first = 0; count = count; every = 1; fate = f }

-- the server sends the joiner two packets, and the second replica one
abbrev pub three_sent : ℕ → List Entry
three_sent kept = Begin 0 Start ∷ End 0 None ((1, 7 ∷ []) ∷ (3, 8 ∷ []) ∷ (1, 9 ∷ []) ∷ []) kept ∷ []

abbrev pub waits : PlanView → ℕ → List Entry → List Copy
waits plan n h = waiting plan four n h

pub record PacketsWait : Type 0 where
  pub both : waits (plan_of [] None) 1 (three_sent 3) ≡ copy 0 0 (7 ∷ []) ∷ copy 0 0 (9 ∷ []) ∷ []
  pub other_node : waits (plan_of [] None) 3 (three_sent 3) ≡ copy 0 0 (8 ∷ []) ∷ []
  pub no_room : waits (plan_of [] None) 1 (three_sent 2) ≡ copy 0 0 (7 ∷ []) ∷ []
  pub dead : waits (plan_of [] (Some 1)) 3 (three_sent 3) ≡ []
  pub another_is_dead : waits (plan_of [] (Some 0)) 3 (three_sent 3) ≡ copy 0 0 (8 ∷ []) ∷ []
  pub dropped : waits (plan_of (first_ones 1 fate.Drop ∷ []) None) 1 (three_sent 3) ≡ copy 0 0 (9 ∷ []) ∷ []
  pub each_link : waits (plan_of (first_ones 1 fate.Drop ∷ []) None) 3 (three_sent 3) ≡ []
  pub twice : waits (plan_of (first_ones 1 (fate.Twice 3) ∷ []) None) 1 (three_sent 3) ≡ copy 0 0 (7 ∷ []) ∷ copy 3 0 (7 ∷ []) ∷ copy 0 0 (9 ∷ []) ∷ []
  pub late : waits (plan_of (first_ones 1 (fate.Late 2) ∷ []) None) 1 (three_sent 3) ≡ copy 2 0 (7 ∷ []) ∷ copy 0 0 (9 ∷ []) ∷ []
  pub taken : waits (plan_of (first_ones 1 (fate.Late 2) ∷ []) None) 1 (three_sent 3 ++ Begin 1 (Packet 0 (9 ∷ [])) ∷ []) ≡ copy 1 0 (7 ∷ []) ∷ []
  pub of_kinds : waits (plan_of (record (first_ones 1 fate.Drop) { from = Some Server; to = Some Joiner } ∷ []) None) 1 (three_sent 3) ≡ copy 0 0 (9 ∷ []) ∷ []
  pub of_other_kinds : waits (plan_of (record (first_ones 1 fate.Drop) { from = Some Server; to = Some Joiner } ∷ []) None) 3 (three_sent 3) ≡ copy 0 0 (8 ∷ []) ∷ []
  pub lost_ones_count : waits (plan_of (first_ones 2 fate.Drop ∷ []) None) 1 (three_sent 0 ++ three_sent 3) ≡ copy 0 0 (7 ∷ []) ∷ copy 0 0 (9 ∷ []) ∷ []

-- ---- what a turn begins with

abbrev pub begins : List Entry → ℕ → Bool → Bool → Option Input
begins h n tick wants = input_of (record { kinds = four; plan = plan_of (first_ones 1 (fate.Late 2) ∷ []) None; history = h }) n tick wants

-- the joiner started
abbrev pub joiner_up : List Entry
joiner_up = Begin 1 Start ∷ End 1 None [] 0 ∷ []

pub record TurnsBegin : Type 0 where
  pub down : begins (three_sent 3) 1 true true ≡ Some Start
  pub packet : begins (joiner_up ++ three_sent 3) 1 true true ≡ Some (Packet 0 (9 ∷ []))
  pub tick : begins joiner_up 1 true true ≡ Some Tick
  pub work : begins joiner_up 1 false true ≡ Some Own
  pub nothing : begins joiner_up 1 false false ≡ None
  pub stopped : begins (Begin 1 Start ∷ Stop 1 None ∷ []) 1 false false ≡ Some Start
