-- The joiner's rows of the turn table. A joiner registers a click's id before it writes the click's pair.
use Rattle.std.specs.Prelude.{ℕ, suc, ◌-◌, ◌^◌, Bool, false, not, ◌&&◌, ◌||◌, nat_lt, List, [], ◌∷◌, ◌++◌, length, map, find, if◌then◌else◌, Option, Some, None}
use Rattle.turn_defs.specs.declared.limits.TheConstants.{MOST_FLIGHTS}
use Rattle.event_id.specs.declared.id.EventId.{EventId}
use Rattle.registry_state.specs.declared.Token.{Token}
use Rattle.registry_state.specs.declared.Insert.{Insert}
use Rattle.event_id.specs.EventId.{is_same as same_id}
use Rattle.registry_state.specs.Same.{same_token}
use Rattle.log_records.specs.declared.records.QueryRec.{QueryRec as Query}
use Rattle.log_records.specs.declared.records.ClickRec.{ClickRec as Click}
use Rattle.log_records.specs.Log.{first}
use Rattle.registry_state.specs.declared.Answer.{Answer}
use Rattle.registry_state.specs.declared.Answer.TheVariants.{Granted, Duplicate, TooOld}
use Rattle.turn_defs.specs.Setting.{Setting, site_of_joiner}
use Rattle.turn_defs.specs.declared.packet.Packet.{Packet}
use Rattle.turn_defs.specs.declared.packet.Packet.TheVariants.{Join, Joined, Reply}
use Rattle.turn_defs.specs.declared.packet.Packet.TheVariants as packet
use Rattle.turn_defs.specs.declared.packet.Outcome.{Outcome}
use Rattle.turn_defs.specs.declared.packet.Outcome.TheVariants.{Written, Already, NoQuery, Busy}
use Rattle.turn_defs.specs.declared.packet.Outcome.TheVariants as outcome
use Rattle.turn_defs.specs.declared.pair.PairRec.{PairRec}
use Rattle.turn_defs.specs.declared.node.To.{To}
use Rattle.turn_defs.specs.declared.node.To.TheVariants.{Only}
use Rattle.turn_defs.specs.declared.node.Node.TheVariants.{Dispatcher, Server}
use Rattle.turn_defs.specs.declared.node.Input.{Input}
use Rattle.turn_defs.specs.declared.node.Input.TheVariants.{Start, Own, Tick, Deliver}
use Rattle.turn_defs.specs.Turns.{Note, Epoch, Output, Out, idle, is_empty}

-- what its disks hold: the epoch, and the pairs that it wrote
pub record JoinerKept : Type 0 where
  pub epoch : ℕ
  pub pairs : List PairRec

-- a join that waits for the registry
pub record Flight : Type 0 where
  pub position : ℕ
  pub click : Click
  pub query : Query
  pub token : Token

-- what it knows while it is up: the number of its next token, and the joins in flight
pub record JoinerLive : Type 0 where
  pub number : ℕ
  pub flight : List Flight

-- what its disks hold once a note is written
abbrev pub land_joiner : Note → JoinerKept → JoinerKept
land_joiner (Epoch e) k = record k { epoch = e }
land_joiner (Output p) k = record k { pairs = k.pairs ++ p ∷ [] }
land_joiner _ k = k

-- the id and the token that a join registers
abbrev pub insert_of : Flight → Insert
insert_of f = record { id = f.click.id; token = f.token }

abbrev pub is_for : Insert → Flight → Bool
is_for x f = same_id f.click.id x.id && same_token f.token x.token

-- whether an id is in flight
abbrev pub in_flight : List Flight → EventId → Bool
in_flight [] i = false
in_flight (f ∷ fs) i = same_id f.click.id i || in_flight fs i

-- the flights without that of x
abbrev pub landed : List Flight → Insert → List Flight
landed [] x = []
landed (f ∷ fs) x = if is_for x f then landed fs x else f ∷ landed fs x

module _ (g : Setting) (n : ℕ) (k : JoinerKept) (l : JoinerLive) where
  abbrev pub to_dispatcher : ℕ → Outcome → List (To × Packet)
  to_dispatcher p o = (Only (Dispatcher (site_of_joiner g n)), Joined p o) ∷ []

  -- an insert goes to the site's server
  abbrev pub claim : Insert → To × Packet
  claim x = (Only (Server (site_of_joiner g n)), packet.Insert x)

  abbrev pub next_token : Token
  next_token = record { joiner = n; epoch = k.epoch; number = l.number }

  -- the click's query was looked for in the whole log
  abbrev pub looks : ℕ → Click → Option Query → Out JoinerLive
  looks p c None = record { note = None; packets = to_dispatcher p (NoQuery (length g.queries)); live = l }
  looks p c (Some q) =
      if nat_lt l.number (2 ^ 64 - 1)
      then record {
        note = None;
        packets = claim (record { id = c.id; token = next_token }) ∷ [];
        live = record { number = suc l.number; flight = l.flight ++ (record { position = p; click = c; query = q; token = next_token }) ∷ [] };
      }
      else idle l

  -- at most so many joins are in flight, and none twice
  abbrev pub joins : ℕ → Click → Out JoinerLive
  joins p c =
      if in_flight l.flight c.id
      then idle l
      else if nat_lt (length l.flight) MOST_FLIGHTS
      then looks p c (first g.queries c.query)
      else record { note = None; packets = to_dispatcher p Busy; live = l }

  abbrev pub without_flight : Insert → JoinerLive
  without_flight x = record l { flight = landed l.flight x }

  -- the registry answered a join in flight
  abbrev pub answers : Insert → Flight → Answer → Out JoinerLive
  answers x f Granted = record { note = Some (Output (record { click = f.click; query = f.query; token = f.token })); packets = to_dispatcher f.position Written; live = without_flight x }
  answers x f (Duplicate h) = record { note = None; packets = to_dispatcher f.position (Already h); live = without_flight x }
  answers x f (TooOld b) = record { note = None; packets = to_dispatcher f.position (outcome.TooOld b); live = without_flight x }

  abbrev pub replied : Insert → Answer → Option Flight → Out JoinerLive
  replied x a None = idle l
  replied x a (Some f) = answers x f a

  abbrev pub joiner_gets : Packet → Out JoinerLive
  joiner_gets (Join p c) = joins p c
  joiner_gets (Reply x a) = replied x a (find (is_for x) l.flight)
  joiner_gets _ = idle l

  abbrev pub joiner_tick : Out JoinerLive
  joiner_tick = record { note = None; packets = map (λ (f : Flight). claim (insert_of f)) l.flight; live = l }

  abbrev pub joiner_turn : Input → Out JoinerLive
  joiner_turn Tick = joiner_tick
  joiner_turn (Deliver from p) = joiner_gets p
  joiner_turn Own = idle l
  joiner_turn Start = idle l

-- it comes up in a new epoch
abbrev pub joiner_start : JoinerKept → Out JoinerLive
joiner_start k = record { note = Some (Epoch (suc k.epoch)); packets = []; live = record { number = 0; flight = [] } }

-- it has nothing to do by itself
abbrev pub joiner_wants : JoinerLive → Bool
joiner_wants l = false

-- it waits for an answer, so it takes a Tick
abbrev pub joiner_unfinished : JoinerLive → Bool
joiner_unfinished l = not (is_empty l.flight)

abbrev pub joiner_at_rest : JoinerLive → Bool
joiner_at_rest l = is_empty l.flight
