-- The registry server's rows of the turn table. One server a site has batches of inserts chosen by the replicas, and
-- answers each insert from the values chosen so far.
use Rattle.std.specs.Prelude.{ℕ, suc, ◌+◌, ◌-◌, ◌*◌, max, Bool, true, false, not, ◌&&◌, ◌||◌, ◌==◌, nat_lt, nat_le, List, [], ◌∷◌, ◌++◌, length, take, if◌then◌else◌, Option, Some, None, is_some, is_none}
use Rattle.turn_defs.specs.declared.limits.TheConstants.{LAST_SLOT}
use Rattle.registry_state.specs.declared.TheConstants.{MOST_WAITING}
use Rattle.registry_state.specs.declared.Token.{Token}
use Rattle.ballot_core.specs.declared.Ballot.{Ballot}
use Rattle.registry_state.specs.declared.Insert.{Insert}
use Rattle.registry_state.specs.declared.Batch.{Batch}
use Rattle.ballot_core.specs.Ballots.{is_same as same_ballot}
use Rattle.registry_state.specs.Same.{same_token}
use Rattle.registry_state.specs.declared.Answer.{Answer}
use Rattle.registry_state.specs.LookBack.{bound_of, replay}
use Rattle.list_words.specs.Lists.{set_at}
use Rattle.turn_defs.specs.Setting.{Setting, first_joiner, shard, shards, site_of_joiner}
use Rattle.turn_defs.specs.declared.packet.Packet.{Packet}
use Rattle.turn_defs.specs.declared.packet.Packet.TheVariants as packet
use Rattle.turn_defs.specs.declared.packet.Packet.TheVariants.{Reply, Prepare, Promise, Nack, Accept, Accepted, Chosen}
use Rattle.paxos_defs.specs.declared.Place.{Place}
use Rattle.paxos_defs.specs.Attempts.{Phase, nobody, on_promise, on_accepted}
use Rattle.paxos_defs.specs.Attempts.Phase.{Promising, Accepting, Ended}
use Rattle.turn_defs.specs.declared.node.To.{To}
use Rattle.turn_defs.specs.declared.node.To.TheVariants.{Only}
use Rattle.turn_defs.specs.declared.node.Node.{Node}
use Rattle.turn_defs.specs.declared.node.Node.TheVariants.{Server, Replica, Joiner}
use Rattle.turn_defs.specs.declared.node.Input.{Input}
use Rattle.turn_defs.specs.declared.node.Input.TheVariants.{Start, Own, Tick, Deliver}
use Rattle.turn_defs.specs.Turns.{Note, Epoch, Out, idle, is_empty}

-- what its disk holds
pub record ServerKept : Type 0 where
  pub epoch : ℕ

-- an attempt to have a value chosen at the next slot, the server's own batch where no earlier one may be chosen there
pub record Proposal : Type 0 where
  pub ballot : Ballot
  pub own : Batch
  pub phase : Phase Batch

-- the values learned in their order, the inserts that wait for an answer, and whether it holds back after a refusal
pub record ShardState : Type 0 where
  pub learned : List Batch
  pub queue : List Insert
  pub proposal : Option Proposal
  pub held : Bool

-- what it knows while it is up: the greatest round used or told, and each shard
pub record ServerLive : Type 0 where
  pub round : ℕ
  pub shards : ℕ → ShardState

-- what its disk holds once a note is written
abbrev pub land_server : Note → ServerKept → ServerKept
land_server (Epoch e) k = record { epoch = e }
land_server _ k = k

abbrev pub empty_shard : ShardState
empty_shard = record { learned = []; queue = []; proposal = None; held = false }

-- whether an insert with the token waits
abbrev pub queued : List Insert → Token → Bool
queued [] t = false
queued (x ∷ xs) t = same_token x.token t || queued xs t

-- to each of so many replicas from this one on
abbrev pub to_from : ℕ → ℕ → Packet → List (To × Packet)
to_from r ℕ.zero p = []
to_from r (suc n) p = (Only (Replica r), p) ∷ to_from (suc r) n p

abbrev pub to_replicas : ℕ → Packet → List (To × Packet)
to_replicas n p = to_from 0 n p

-- the round or slot isn't the last
abbrev pub is_below_limit : ℕ → Bool
is_below_limit n = nat_lt n LAST_SLOT

-- whether there is no proposal
abbrev pub is_free : Option Proposal → Bool
is_free None = true
is_free (Some p) = false

-- the Own row applies to this shard
abbrev pub may_propose : Setting → ShardState → Bool
may_propose g st = (is_free st.proposal && not st.held) && ((not (is_empty st.queue) || nat_lt (bound_of st.learned) g.config.horizon) && is_below_limit (length st.learned))

-- the first of so many numbers, from this one on, that passes the test
abbrev pub first_shard : (ℕ → Bool) → ℕ → ℕ → Option ℕ
first_shard test from ℕ.zero = None
first_shard test from (suc n) = let rest = first_shard test (suc from) n in if test from then Some from else rest

-- the place is the shard's next slot, of a shard that the table has
abbrev pub is_next : Setting → Place → ShardState → Bool
is_next g at st = nat_lt at.shard (shards g) && (at.slot == length st.learned)

-- the proposal's place and ballot
abbrev pub is_current : Setting → Place → Ballot → ShardState → Proposal → Bool
is_current g at b st p = is_next g at st && same_ballot p.ballot b

module _ (g : Setting) (site : ℕ) where
  -- a Reply goes to the joiner that the token names, where that is one of this site
  abbrev pub is_own_joiner : ℕ → Bool
  is_own_joiner n = (nat_le (first_joiner g) n && nat_lt n (first_joiner g + 2 * g.config.joiners)) && (site_of_joiner g n == site)

  abbrev pub reply : Insert → Answer → List (To × Packet)
  reply x a = if is_own_joiner x.token.joiner then (Only (Joiner x.token.joiner), Reply x a) ∷ [] else []

  abbrev pub reply_if : Insert → Option Answer → List (To × Packet)
  reply_if x None = []
  reply_if x (Some a) = reply x a

  -- a Reply for each waiting insert that these values answer, and the inserts that they don't
  abbrev pub replies : List Batch → List Insert → List (To × Packet)
  replies vs [] = []
  replies vs (x ∷ xs) = reply_if x (replay vs x.id x.token) ++ replies vs xs

  abbrev pub keep_if : Insert → Option Answer → List Insert → List Insert
  keep_if x None xs = x ∷ xs
  keep_if x (Some a) xs = xs

  abbrev pub unanswered : List Batch → List Insert → List Insert
  unanswered vs [] = []
  unanswered vs (x ∷ xs) = keep_if x (replay vs x.id x.token) (unanswered vs xs)

  -- the shard after a value is learned
  abbrev pub learns : ShardState → Batch → ShardState
  learns st v = record { learned = st.learned ++ v ∷ []; queue = unanswered (st.learned ++ v ∷ []) st.queue; proposal = None; held = false }

  module _ (k : ServerKept) (l : ServerLive) where
    abbrev pub with_shard : ℕ → ShardState → ServerLive
    with_shard s st = record l { shards = set_at l.shards s st }

    -- an insert comes; at most 4,096 wait in a shard
    abbrev pub claimed : Insert → ℕ → ShardState → Option Answer → Out ServerLive
    claimed x s st (Some a) = record { note = None; packets = reply x a; live = l }
    claimed x s st None =
        if queued st.queue x.token || nat_le MOST_WAITING (length st.queue)
        then idle l
        else record { note = None; packets = []; live = with_shard s (record st { queue = st.queue ++ x ∷ [] }) }

    -- a ballot is drawn, and every replica is asked for its promise
    abbrev pub proposes : ℕ → ShardState → Ballot → Out ServerLive
    proposes s st b =
        record {
          note = None;
          packets = to_replicas g.config.replicas (Prepare (record { shard = s; slot = length st.learned }) b);
          live =
              record {
                round = suc l.round;
                shards = set_at l.shards s (record st { proposal = Some (record { ballot = b; own = record { bound = g.config.horizon; inserts = take g.config.batch st.queue }; phase = Promising (nobody g.config.replicas) None }) });
              };
        }

    abbrev pub owns : Option ℕ → Out ServerLive
    owns None = idle l
    owns (Some s) = proposes s (l.shards s) (record { round = suc l.round; epoch = k.epoch; site = site })

    abbrev pub server_own : Out ServerLive
    server_own = if is_below_limit l.round then owns (first_shard (λ s. may_propose g (l.shards s)) 0 (shards g)) else idle l

    -- a proposal goes on to a phase
    abbrev pub goes_on : ℕ → ShardState → Proposal → Phase Batch → ServerLive
    goes_on s st p phase = with_shard s (record st { proposal = Some (record { ballot = p.ballot; own = p.own; phase = phase }) })

    abbrev pub accept_if : Place → Ballot → Option Batch → List (To × Packet)
    accept_if at b None = []
    accept_if at b (Some v) = to_replicas g.config.replicas (Accept at b v)

    abbrev pub promised : Place → ShardState → Proposal → Phase Batch × Option Batch → Out ServerLive
    promised at st p turn = record { note = None; packets = accept_if at p.ballot turn.1; live = goes_on at.shard st p turn.0 }

    -- a majority accepted: the value is chosen, and learned
    abbrev pub accepted : Place → ShardState → Proposal → Phase Batch → Option Batch → Out ServerLive
    accepted at st p phase None = record { note = None; packets = []; live = goes_on at.shard st p phase }
    accepted at st p phase (Some v) =
        record {
          note = None;
          packets = (Only (Server (1 - site)), Chosen at v) ∷ replies (st.learned ++ v ∷ []) st.queue;
          live = with_shard at.shard (learns st v);
        }

    -- a replica promised a higher ballot: hold back until the next Tick
    abbrev pub nacked : Place → ShardState → Ballot → Out ServerLive
    nacked at st b = record { note = None; packets = []; live = record { round = max l.round b.round; shards = set_at l.shards at.shard (record st { proposal = None; held = true }) } }

    abbrev pub gets_promise : ℕ → Place → Ballot → Option (Ballot × Batch) → ShardState → Option Proposal → Out ServerLive
    gets_promise r at b prior st None = idle l
    gets_promise r at b prior st (Some p) = if is_current g at b st p then promised at st p (on_promise p.own p.phase r prior) else idle l

    abbrev pub gets_accepted : ℕ → Place → Ballot → ShardState → Option Proposal → Out ServerLive
    gets_accepted r at b st None = idle l
    gets_accepted r at b st (Some p) = if is_current g at b st p then accepted at st p (on_accepted p.phase r).0 (on_accepted p.phase r).1 else idle l

    abbrev pub gets_nack : Place → Ballot → Ballot → ShardState → Option Proposal → Out ServerLive
    gets_nack at b above st None = idle l
    gets_nack at b above st (Some p) = if is_current g at b st p then nacked at st above else idle l

    abbrev pub gets_chosen : Place → Batch → ShardState → Out ServerLive
    gets_chosen at v st =
        if is_next g at st && is_below_limit at.slot
        then record { note = None; packets = replies (st.learned ++ v ∷ []) st.queue; live = with_shard at.shard (learns st v) }
        else idle l

    -- the packets of a proposal's phase
    abbrev pub of_phase : Place → Ballot → Phase Batch → List (To × Packet)
    of_phase at b (Promising marks best) = to_replicas g.config.replicas (Prepare at b)
    of_phase at b (Accepting v marks) = to_replicas g.config.replicas (Accept at b v)
    of_phase at b Ended = []

    abbrev pub again : ℕ → ShardState → Option Proposal → List (To × Packet)
    again s st None = []
    again s st (Some p) = of_phase (record { shard = s; slot = length st.learned }) p.ballot p.phase

    abbrev pub all_again : ℕ → ℕ → List (To × Packet)
    all_again from ℕ.zero = []
    all_again from (suc n) = again from (l.shards from) (l.shards from).proposal ++ all_again (suc from) n

    abbrev pub server_tick : Out ServerLive
    server_tick = record { note = None; packets = all_again 0 (shards g); live = record l { shards = λ s. record (l.shards s) { held = false } } }

    abbrev pub from_replica : ℕ → Packet → Out ServerLive
    from_replica r (Promise at b prior) = gets_promise r at b prior (l.shards at.shard) (l.shards at.shard).proposal
    from_replica r (Accepted at b) = gets_accepted r at b (l.shards at.shard) (l.shards at.shard).proposal
    from_replica r (Nack at b above) = gets_nack at b above (l.shards at.shard) (l.shards at.shard).proposal
    from_replica r _ = idle l

    abbrev pub server_gets : Node → Packet → Out ServerLive
    server_gets from (packet.Insert x) = claimed x (shard g x.id) (l.shards (shard g x.id)) (replay (l.shards (shard g x.id)).learned x.id x.token)
    server_gets from (Chosen at v) = gets_chosen at v (l.shards at.shard)
    server_gets (Replica r) p = from_replica r p
    server_gets _ _ = idle l

    abbrev pub server_turn : Input → Out ServerLive
    server_turn Own = server_own
    server_turn Tick = server_tick
    server_turn (Deliver from p) = server_gets from p
    server_turn Start = idle l

-- it comes up in a new epoch, with nothing learned
abbrev pub server_start : ServerKept → Out ServerLive
server_start k = record { note = Some (Epoch (suc k.epoch)); packets = []; live = record { round = 0; shards = λ s. empty_shard } }

module _ (g : Setting) where
  -- an Own row applies
  abbrev pub server_wants : ServerLive → Bool
  server_wants l = is_below_limit l.round && is_some (first_shard (λ s. may_propose g (l.shards s)) 0 (shards g))

  abbrev pub shard_unfinished : ShardState → Bool
  shard_unfinished st = (not (is_free st.proposal) || st.held) || (not (is_empty st.queue) || nat_lt (bound_of st.learned) g.config.horizon)

  -- a shard has something that waits, so it takes a Tick
  abbrev pub server_unfinished : ServerLive → Bool
  server_unfinished l = is_some (first_shard (λ s. shard_unfinished (l.shards s)) 0 (shards g))

  -- it knows in each shard a bound not below the horizon
  abbrev pub server_at_rest : ServerLive → Bool
  server_at_rest l = is_none (first_shard (λ s. nat_lt (bound_of (l.shards s).learned) g.config.horizon) 0 (shards g))
