-- Worked intervals: a packet is carried once, and three idle intervals follow one another with three replicas.
use Rattle.std.specs.Prelude.{ℕ, ◌==◌, Bool, false, List, [], ◌∷◌, length, None}
use Rattle.progress_laws.specs.Terms.{Ballot, Begin, Carries, End, Entry, IsAtRest, IsInterval, IsRun, Out, Place, Setting, Stop, World, after, at_node, opening, row_of, world_after}
use Rattle.registry_state.specs.declared.Batch.{Batch}
use Rattle.turn_defs.specs.Rows.{worked}
use Rattle.turn_defs.specs.declared.packet.Packet.{Packet}
use Rattle.turn_defs.specs.declared.packet.Packet.TheVariants.{Prepare, Promise, Nack, Accept, Accepted, Chosen}
use Rattle.turn_defs.specs.declared.node.Node.{Node}
use Rattle.turn_defs.specs.declared.node.Node.TheVariants.{Dispatcher, Server, Replica}
use Rattle.turn_defs.specs.declared.node.To.{To}
use Rattle.turn_defs.specs.declared.node.To.TheVariants.{Only, AnyJoiner}
use Rattle.turn_defs.specs.declared.node.Input.{Input}
use Rattle.turn_defs.specs.declared.node.Input.TheVariants.{Start, Own, Tick, Deliver}
use Rattle.photon_model.specs.Stores.{empty_disks}
use Rattle.progress_laws.specs.Idle.{NoWork, AreIdle}

abbrev pub place : Place
place = record { shard = 0; slot = 0 }

-- round, epoch and site
abbrev pub ballot : ℕ → ℕ → ℕ → Ballot
ballot round epoch site = record { round = round; epoch = epoch; site = site }

abbrev pub prepare : Ballot → Packet
prepare b = Prepare place b

-- ---- one packet to two replicas, of which one takes no part

abbrev pub without_two : ℕ → Bool
without_two r = r == 2

abbrev pub sends_two : Entry
sends_two = End (Server 0) None ((Replica 0, prepare (ballot 1 1 0)) ∷ (Replica 2, prepare (ballot 1 1 0)) ∷ []) 2

abbrev pub arrives : Entry
arrives = Begin (Replica 0) (Deliver (Server 0) (prepare (ballot 1 1 0)))

-- It is delivered once, after it was sent: not never, not before, not twice.
pub record CarriesOnce : Type 0 where
  pub once : Carries without_two [] (sends_two ∷ arrives ∷ [])
  pub never : Carries without_two [] (sends_two ∷ []) → ⊥
  pub before : Carries without_two [] (arrives ∷ sends_two ∷ []) → ⊥
  pub twice : Carries without_two [] (sends_two ∷ arrives ∷ arrives ∷ []) → ⊥

-- ---- histories by their inputs

-- no clicks and no joiners; the one shard's bound is to reach 1
abbrev pub three : Setting
three = record { queries = []; clicks = []; config = record worked.config { horizon = 1; joiners = 0; table = (record { start = 0; count = 1 }) ∷ []; batch = 1 } }

abbrev pub all_live : ℕ → Bool
all_live r = false

abbrev pub to_one : List (To × Packet) → List (Node × Packet)
to_one [] = []
to_one ((Only n, p) ∷ ps) = (n, p) ∷ to_one ps
to_one ((AnyJoiner s, p) ∷ ps) = to_one ps

abbrev pub ends_by : {L : Type 0} → Node → Out L → Entry
ends_by n o = End n o.note (to_one o.packets) (length (to_one o.packets))

-- the node's open turn ends as its row says
abbrev pub ends : World → Node → Entry
ends w n = ends_by n (row_of three n (at_node w n))

-- turns that begin with these inputs, one after the other
abbrev pub plays : World → List (Node × Input) → List Entry
plays w [] = []
plays w ((n, i) ∷ ts) = Begin n i ∷ ends (after three w (Begin n i)) n ∷ plays (after three (after three w (Begin n i)) (ends (after three w (Begin n i)) n)) ts

-- a server draws a ballot, or takes a Tick; a replica takes its question; it hears of a promise, or of a refusal
abbrev pub asks : ℕ → Node × Input
asks s = (Server s, Own)

abbrev pub ticks : ℕ → Node × Input
ticks s = (Server s, Tick)

abbrev pub takes : ℕ → Ballot → Node × Input
takes r b = (Replica r, Deliver (Server b.site) (prepare b))

abbrev pub hears : ℕ → Ballot → Node × Input
hears r b = (Server b.site, Deliver (Replica r) (Promise place b None))

abbrev pub heeds : ℕ → Ballot → Ballot → Node × Input
heeds r b above = (Server b.site, Deliver (Replica r) (Nack place b above))

-- ---- three intervals

-- Each server draws ballots that one replica hears of, and is refused by what the other one drew: in the end the replicas have
-- promised rounds 2, 4 and 6.
abbrev pub duel : List (Node × Input)
duel =
    (Replica 0, Start)
    ∷ (Replica 1, Start)
    ∷ (Replica 2, Start)
    ∷ (Dispatcher 0, Start)
    ∷ (Dispatcher 0, Own)
    ∷ (Dispatcher 1, Start)
    ∷ (Dispatcher 1, Own)
    ∷ (Server 0, Start)
    ∷ (Server 1, Start)
    ∷ asks 0
    ∷ asks 1
    ∷ takes 0 (ballot 1 1 1)
    ∷ takes 0 (ballot 1 1 0) ∷ heeds 0 (ballot 1 1 0) (ballot 1 1 1) ∷ ticks 0 ∷ asks 0
    ∷ takes 0 (ballot 2 1 0)
    ∷ takes 0 (ballot 1 1 1) ∷ heeds 0 (ballot 1 1 1) (ballot 2 1 0) ∷ ticks 1 ∷ asks 1
    ∷ takes 1 (ballot 3 1 1)
    ∷ takes 1 (ballot 2 1 0) ∷ heeds 1 (ballot 2 1 0) (ballot 3 1 1) ∷ ticks 0 ∷ asks 0
    ∷ takes 1 (ballot 4 1 0)
    ∷ takes 1 (ballot 3 1 1) ∷ heeds 1 (ballot 3 1 1) (ballot 4 1 0) ∷ ticks 1 ∷ asks 1
    ∷ takes 2 (ballot 5 1 1)
    ∷ takes 2 (ballot 4 1 0) ∷ heeds 2 (ballot 4 1 0) (ballot 5 1 1) ∷ ticks 0 ∷ asks 0
    ∷ takes 2 (ballot 6 1 0)
    ∷ []

-- both stop in a turn
abbrev pub stops : List Entry
stops = Begin (Server 0) Tick ∷ Stop (Server 0) None ∷ Begin (Server 1) Tick ∷ Stop (Server 1) None ∷ []

-- and come up again, and draw round 1, which no replica hears of
abbrev pub restarts : List (Node × Input)
restarts =
    (Server 0, Start)
    ∷ (Server 1, Start)
    ∷ asks 0
    ∷ asks 1
    ∷ []

-- replica 0 refuses round 1, replica 1 round 3, replica 2 round 5
abbrev pub first : List (Node × Input)
first =
    ticks 0
    ∷ takes 0 (ballot 1 2 0) ∷ heeds 0 (ballot 1 2 0) (ballot 2 1 0)
    ∷ takes 1 (ballot 1 2 0) ∷ heeds 1 (ballot 1 2 0) (ballot 4 1 0)
    ∷ takes 2 (ballot 1 2 0) ∷ heeds 2 (ballot 1 2 0) (ballot 6 1 0)
    ∷ ticks 1
    ∷ takes 0 (ballot 1 2 1) ∷ heeds 0 (ballot 1 2 1) (ballot 2 1 0)
    ∷ takes 1 (ballot 1 2 1) ∷ heeds 1 (ballot 1 2 1) (ballot 4 1 0)
    ∷ takes 2 (ballot 1 2 1) ∷ heeds 2 (ballot 1 2 1) (ballot 6 1 0)
    ∷ []

abbrev pub second : List (Node × Input)
second =
    ticks 0 ∷ asks 0
    ∷ takes 0 (ballot 3 2 0) ∷ hears 0 (ballot 3 2 0)
    ∷ takes 1 (ballot 3 2 0) ∷ heeds 1 (ballot 3 2 0) (ballot 4 1 0)
    ∷ takes 2 (ballot 3 2 0) ∷ heeds 2 (ballot 3 2 0) (ballot 6 1 0)
    ∷ ticks 1 ∷ asks 1
    ∷ takes 0 (ballot 3 2 1) ∷ hears 0 (ballot 3 2 1)
    ∷ takes 1 (ballot 3 2 1) ∷ heeds 1 (ballot 3 2 1) (ballot 4 1 0)
    ∷ takes 2 (ballot 3 2 1) ∷ heeds 2 (ballot 3 2 1) (ballot 6 1 0)
    ∷ []

abbrev pub third : List (Node × Input)
third =
    ticks 0 ∷ asks 0
    ∷ takes 2 (ballot 5 2 0) ∷ heeds 2 (ballot 5 2 0) (ballot 6 1 0)
    ∷ takes 0 (ballot 5 2 0) ∷ hears 0 (ballot 5 2 0)
    ∷ takes 1 (ballot 5 2 0) ∷ hears 1 (ballot 5 2 0)
    ∷ ticks 1 ∷ asks 1
    ∷ takes 2 (ballot 5 2 1) ∷ heeds 2 (ballot 5 2 1) (ballot 6 1 0)
    ∷ takes 0 (ballot 5 2 1) ∷ hears 0 (ballot 5 2 1)
    ∷ takes 1 (ballot 5 2 1) ∷ hears 1 (ballot 5 2 1)
    ∷ []

abbrev pub beginning : World
beginning = opening empty_disks

abbrev pub down_again : World
down_again = world_after three (world_after three beginning (plays beginning duel)) stops

abbrev pub stale : World
stale = world_after three down_again (plays down_again restarts)

abbrev pub after_first : World
after_first = world_after three stale (plays stale first)

abbrev pub after_second : World
after_second = world_after three after_first (plays after_first second)

abbrev pub after_third : World
after_third = world_after three after_second (plays after_second third)

-- In a fourth one nobody refuses round 7: a replica takes the value, and the server hears of it; the other server is told.
abbrev pub bound_one : Batch
bound_one = record { bound = 1; inserts = [] }

abbrev pub accepts : ℕ → Ballot → Node × Input
accepts r b = (Replica r, Deliver (Server b.site) (Accept place b bound_one))

abbrev pub counts : ℕ → Ballot → Node × Input
counts r b = (Server b.site, Deliver (Replica r) (Accepted place b))

abbrev pub fourth : List (Node × Input)
fourth =
    ticks 0 ∷ asks 0
    ∷ takes 0 (ballot 7 2 0) ∷ hears 0 (ballot 7 2 0)
    ∷ takes 1 (ballot 7 2 0) ∷ hears 1 (ballot 7 2 0)
    ∷ takes 2 (ballot 7 2 0) ∷ hears 2 (ballot 7 2 0)
    ∷ accepts 0 (ballot 7 2 0) ∷ counts 0 (ballot 7 2 0)
    ∷ accepts 1 (ballot 7 2 0) ∷ counts 1 (ballot 7 2 0)
    ∷ accepts 2 (ballot 7 2 0) ∷ counts 2 (ballot 7 2 0)
    ∷ (Server 1, Deliver (Server 0) (Chosen place bound_one)) ∷ ticks 1
    ∷ []

-- A run from nothing leads to a world that isn't at rest, and from there three idle intervals follow one another. The fourth
-- has a work turn, and leads to rest.
pub record ThreeAreIdle : Type 0 where
  pub first_lives : IsRun three beginning (plays beginning duel)
  pub stop : IsRun three (world_after three beginning (plays beginning duel)) stops
  pub second_lives : IsRun three down_again (plays down_again restarts)
  pub idle : AreIdle three all_live stale (plays stale first ∷ plays after_first second ∷ plays after_second third ∷ [])
  pub work_is_left : IsAtRest three stale → ⊥
  pub goes_on : IsRun three after_third (plays after_third fourth)
  pub last : IsInterval three all_live after_third (plays after_third fourth)
  pub works : NoWork three after_third (plays after_third fourth) → ⊥
  pub rests : IsAtRest three (world_after three after_third (plays after_third fourth))
