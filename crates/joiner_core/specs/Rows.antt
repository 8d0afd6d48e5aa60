-- Worked turns of joiner 7, on one click and its query.
use Rattle.std.specs.Prelude.{◌≡◌, ℕ, ◌-◌, ◌^◌, true, List, [], ◌∷◌, replicate, Some, None}
use Rattle.joiner_core.specs.Terms.{Click, Packet, Dispatcher, Server, Input, Own, Tick, Deliver, Setting, Epoch, Output, Out, idle, JoinerKept, JoinerLive, Flight, joiner_start, joiner_turn, joiner_unfinished, joiner_at_rest}
use Rattle.log_records.specs.Rows.{one_query, one_click}
use Rattle.registry_state.specs.declared.Answer.{Answer}
use Rattle.registry_state.specs.declared.Answer.TheVariants.{Granted, Duplicate, TooOld}
use Rattle.turn_defs.specs.declared.packet.Packet.TheVariants as packet
use Rattle.turn_defs.specs.declared.packet.Outcome.TheVariants as outcome
use Rattle.turn_defs.specs.declared.node.To.{To}
use Rattle.turn_defs.specs.declared.node.To.TheVariants.{Only}
use Rattle.turn_defs.specs.Rows.{worked, token, insert}

-- in its first epoch, nothing being written
abbrev pub kept : JoinerKept
kept = record { epoch = 1; pairs = [] }

-- the join of the click under token n
abbrev pub flying : ℕ → List Flight
flying n = (record { position = 0; click = one_click; query = one_query; token = token n }) ∷ []

-- the next number, and the joins in flight
abbrev pub up : ℕ → List Flight → JoinerLive
up number flight = record { number = number; flight = flight }

abbrev pub turn : JoinerLive → Input → Out JoinerLive
turn = joiner_turn worked 7 kept

-- a click of another id on the same query
abbrev pub other : Click
other = record one_click { id = record { ip = 1; pid = 1; micros = 1 } }

abbrev pub asked : ℕ → Click → Input
asked p c = Deliver (Dispatcher 0) (packet.Join p c)

abbrev pub answered : ℕ → Answer → Input
answered n a = Deliver (Server 0) (packet.Reply (insert n) a)

abbrev pub to_server : ℕ → To × Packet
to_server n = (Only (Server 0), packet.Insert (insert n))

abbrev pub to_dispatcher : Packet → To × Packet
to_dispatcher p = (Only (Dispatcher 0), p)

abbrev pub sending : To × Packet → JoinerLive → Out JoinerLive
sending p l = record { note = None; packets = p ∷ []; live = l }

-- as many joins as may be in flight
abbrev pub all_flying : List Flight
all_flying = replicate 32 (record { position = 0; click = one_click; query = one_query; token = token 0 })

abbrev pub without_queries : Setting
without_queries = record worked { queries = [] }

pub record WorkedTurns : Type 0 where
  pub starts : joiner_start (record { epoch = 0; pairs = [] }) ≡ record { note = Some (Epoch 1); packets = []; live = up 0 [] }
  -- Join, row by row
  pub in_flight : turn (up 1 (flying 0)) (asked 0 one_click) ≡ idle (up 1 (flying 0))
  pub busy : turn (up 32 all_flying) (asked 36 other) ≡ sending (to_dispatcher (packet.Joined 36 outcome.Busy)) (up 32 all_flying)
  pub busy_but_in_flight : turn (up 32 all_flying) (asked 0 one_click) ≡ idle (up 32 all_flying)
  pub no_query : joiner_turn without_queries 7 kept (up 0 []) (asked 0 one_click) ≡ sending (to_dispatcher (packet.Joined 0 (outcome.NoQuery 0))) (up 0 [])
  pub inserts : turn (up 0 []) (asked 0 one_click) ≡ sending (to_server 0) (up 1 (flying 0))
  pub next_number : turn (up 5 []) (asked 0 one_click) ≡ sending (to_server 5) (up 6 (flying 5))
  pub out_of_numbers : turn (up (2 ^ 64 - 1) []) (asked 0 one_click) ≡ idle (up (2 ^ 64 - 1) [])
  -- Reply
  pub granted :
      turn (up 1 (flying 0)) (answered 0 Granted)
      ≡ record { note = Some (Output (record { click = one_click; query = one_query; token = token 0 })); packets = to_dispatcher (packet.Joined 0 outcome.Written) ∷ []; live = up 1 [] }
  pub duplicate : turn (up 1 (flying 0)) (answered 0 (Duplicate (token 9))) ≡ sending (to_dispatcher (packet.Joined 0 (outcome.Already (token 9)))) (up 1 [])
  pub too_old : turn (up 1 (flying 0)) (answered 0 (TooOld 2001)) ≡ sending (to_dispatcher (packet.Joined 0 (outcome.TooOld 2001))) (up 1 [])
  pub of_another_token : turn (up 2 (flying 1)) (answered 0 Granted) ≡ idle (up 2 (flying 1))
  pub late_reply : turn (up 1 []) (answered 0 Granted) ≡ idle (up 1 [])
  -- Tick, and Own
  pub sends_again : turn (up 9 (flying 3)) Tick ≡ sending (to_server 3) (up 9 (flying 3))
  pub own : turn (up 1 (flying 0)) Own ≡ idle (up 1 (flying 0))
  -- the joiner of the other site asks that site's server
  pub other_site : (joiner_turn worked 8 kept (up 0 []) (asked 0 one_click)).packets ≡ (Only (Server 1), packet.Insert (record { id = one_click.id; token = record { joiner = 8; epoch = 1; number = 0 } })) ∷ []
  pub unfinished : joiner_unfinished (up 1 (flying 0)) ≡ true
  pub at_rest : joiner_at_rest (up 1 []) ≡ true
