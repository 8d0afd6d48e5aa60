-- Worked turns of the server of site 0, on one insert, which is of shard 3.
use Rattle.std.specs.Prelude.{◌≡◌, ℕ, ◌-◌, ◌^◌, Bool, true, false, ◌==◌, List, [], ◌∷◌, if◌then◌else◌, Option, Some, None}
use Rattle.registry_server.specs.Terms.{Accepting, Ballot, Batch, Deliver, Epoch, Input, Insert, Only, Out, Own, Packet, Phase, Place, Promising, Proposal, ServerKept, ServerLive, ShardState, Tick, To, empty_shard, nobody, server_at_rest, server_start, server_turn, server_unfinished, server_wants, Granted, Duplicate, Server, Replica, Joiner, worked, worked_late, token, insert, one_batch}
use Rattle.turn_defs.specs.declared.packet.Packet.TheVariants as packet

abbrev pub kept : ServerKept
kept = record { epoch = 1 }

abbrev pub ballot : ℕ → Ballot
ballot round = record { round = round; epoch = 1; site = 0 }

abbrev pub place : ℕ → Place
place slot = record { shard = 3; slot = slot }

-- the round, and shard 3; the other shards are empty
abbrev pub up : ℕ → ShardState → ServerLive
up round st = record { round = round; shards = λ s. if s == 3 then st else empty_shard }

-- the values learned, the inserts that wait, the proposal, and whether the shard holds back
abbrev pub state : List Batch → List Insert → Option Proposal → Bool → ShardState
state learned queue proposal held = record { learned = learned; queue = queue; proposal = proposal; held = held }

-- the insert waits
abbrev pub waits : ShardState
waits = state [] (insert 0 ∷ []) None false

-- the server's batch of the waiting insert is proposed at ballot 1
abbrev pub tries : Phase Batch → ShardState
tries phase = state [] (insert 0 ∷ []) (Some (record { ballot = ballot 1; own = one_batch; phase = phase })) false

abbrev pub asks : ShardState
asks = tries (Promising (nobody 3) None)

abbrev pub asks_on : ShardState
asks_on = tries (Promising (true ∷ false ∷ false ∷ []) None)

abbrev pub offers : ShardState
offers = tries (Accepting one_batch (nobody 3))

abbrev pub offers_on : ShardState
offers_on = tries (Accepting one_batch (true ∷ false ∷ false ∷ []))

-- the batch is learned
abbrev pub learned : ShardState
learned = state (one_batch ∷ []) [] None false

abbrev pub turn : ServerLive → Input → Out ServerLive
turn = server_turn worked 0 kept

-- what is sent, the round, and shard 3
pub record Leads (o : Out ServerLive) (sent : List (To × Packet)) (n : ℕ) (st : ShardState) : Type 0 where
  pub note : o.note ≡ None
  pub packets : o.packets ≡ sent
  pub round : o.live.round ≡ n
  pub shard : o.live.shards 3 ≡ st

abbrev pub asked : ℕ → Input
asked n = Deliver (Joiner 7) (packet.Insert (insert n))

abbrev pub from : ℕ → Packet → Input
from r p = Deliver (Replica r) p

abbrev pub to_all : Packet → List (To × Packet)
to_all p = (Only (Replica 0), p) ∷ (Only (Replica 1), p) ∷ (Only (Replica 2), p) ∷ []

abbrev pub to_joiner : Packet → To × Packet
to_joiner p = (Only (Joiner 7), p)

-- a higher ballot of the other site, and a batch that was accepted before
abbrev pub other : Ballot
other = record { round = 5; epoch = 1; site = 1 }

abbrev pub prior : Batch
prior = record { bound = 0; inserts = insert 9 ∷ [] }

pub record Starts (o : Out ServerLive) : Type 0 where
  pub note : o.note ≡ Some (Epoch 1)
  pub packets : o.packets ≡ []
  pub round : o.live.round ≡ 0
  pub shard : o.live.shards 3 ≡ empty_shard

pub record WorkedTurns : Type 0 where
  pub starts : Starts (server_start (record { epoch = 0 }))
  -- Insert, row by row
  pub replays : Leads (turn (up 1 learned) (asked 0)) (to_joiner (packet.Reply (insert 0) Granted) ∷ []) 1 learned
  pub replays_other : Leads (turn (up 1 learned) (asked 1)) (to_joiner (packet.Reply (insert 1) (Duplicate (token 0))) ∷ []) 1 learned
  pub waits_already : Leads (turn (up 0 waits) (asked 0)) [] 0 waits
  pub is_queued : Leads (turn (up 0 empty_shard) (asked 0)) [] 0 waits
  -- Own
  pub proposes : Leads (turn (up 0 waits) Own) (to_all (packet.Prepare (place 0) (ballot 1))) 1 asks
  pub proposes_once : Leads (turn (up 1 asks) Own) [] 1 asks
  pub nothing_waits : Leads (turn (up 0 empty_shard) Own) [] 0 empty_shard
  pub rounds_are_spent : Leads (turn (up (2 ^ 48 - 1) waits) Own) [] (2 ^ 48 - 1) waits
  pub holds_back : Leads (turn (up 1 (record waits { held = true })) Own) [] 1 (record waits { held = true })
  pub raises_the_bound :
      (server_turn worked_late 0 kept (up 0 empty_shard) Own).packets ≡ to_all (packet.Prepare (record { shard = 0; slot = 0 }) (ballot 1))
  -- Promise
  pub first_promise : Leads (turn (up 1 asks) (from 0 (packet.Promise (place 0) (ballot 1) None))) [] 1 asks_on
  pub second_promise : Leads (turn (up 1 asks_on) (from 1 (packet.Promise (place 0) (ballot 1) None))) (to_all (packet.Accept (place 0) (ballot 1) one_batch)) 1 offers
  pub prior_first :
      Leads (turn (up 1 asks_on) (from 1 (packet.Promise (place 0) (ballot 1) (Some (ballot 0, prior)))))
      (to_all (packet.Accept (place 0) (ballot 1) prior)) 1 (tries (Accepting prior (nobody 3)))
  pub same_replica : Leads (turn (up 1 asks_on) (from 0 (packet.Promise (place 0) (ballot 1) None))) [] 1 asks_on
  pub other_ballot : Leads (turn (up 1 asks_on) (from 1 (packet.Promise (place 0) (ballot 2) None))) [] 1 asks_on
  pub other_slot : Leads (turn (up 1 asks_on) (from 1 (packet.Promise (place 1) (ballot 1) None))) [] 1 asks_on
  -- Accepted
  pub first_accepted : Leads (turn (up 1 offers) (from 0 (packet.Accepted (place 0) (ballot 1)))) [] 1 offers_on
  pub second_accepted :
      Leads (turn (up 1 offers_on) (from 2 (packet.Accepted (place 0) (ballot 1))))
      ((Only (Server 1), packet.Chosen (place 0) one_batch) ∷ to_joiner (packet.Reply (insert 0) Granted) ∷ []) 1 learned
  -- Nack
  pub refused : Leads (turn (up 1 asks) (from 2 (packet.Nack (place 0) (ballot 1) other))) [] 5 (record waits { held = true })
  -- Chosen
  pub told : Leads (turn (up 0 waits) (Deliver (Server 1) (packet.Chosen (place 0) one_batch))) (to_joiner (packet.Reply (insert 0) Granted) ∷ []) 0 learned
  pub told_too_early : Leads (turn (up 0 waits) (Deliver (Server 1) (packet.Chosen (place 1) one_batch))) [] 0 waits
  pub told_of_no_shard : (turn (up 0 waits) (Deliver (Server 1) (packet.Chosen (record { shard = 4; slot = 0 }) one_batch))).live.shards 4 ≡ empty_shard
  -- Tick
  pub asks_again : Leads (turn (up 1 asks) Tick) (to_all (packet.Prepare (place 0) (ballot 1))) 1 asks
  pub offers_again : Leads (turn (up 1 offers_on) Tick) (to_all (packet.Accept (place 0) (ballot 1) one_batch)) 1 offers_on
  pub holds_no_more : Leads (turn (up 1 (record waits { held = true })) Tick) [] 1 waits
  -- a token of the other site's joiner is answered by that site's server
  pub not_its_own : (server_turn worked 1 kept (up 1 learned) (asked 0)).packets ≡ []
  pub wants_to_propose : server_wants worked (up 0 waits) ≡ true
  pub wants_nothing : server_wants worked (up 1 asks) ≡ false
  pub unfinished : server_unfinished worked (up 1 asks) ≡ true
  pub finished : server_unfinished worked (up 1 learned) ≡ false
  pub at_rest : server_at_rest worked (up 0 waits) ≡ true
  pub not_at_rest : server_at_rest worked_late (up 1 learned) ≡ false
