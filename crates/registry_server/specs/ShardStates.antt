-- A shard as the state that it stands for.
use Rattle.std.specs.Prelude.{◌≡◌, ℕ, ◌<◌, ◌≤◌, ◌&&◌, ◌||◌, not, ◌++◌, ◌∷◌, [], Bool, true, false, List, length, get_or, nat_lt, nat_le, if◌then◌else◌, Option, Some, None, option_map, is_some, IfSome, ⊤}
use Rattle.registry_server.specs.Terms.{Answer, Ballot, Batch, Ended, Insert, Knows, LAST_SLOT, MOST_WAITING, Phase, Proposal, Proposer, Setting, ShardState, ballot_of, bound_of, is_below_limit, learns, may_propose, on_accepted, on_promise, own_of, phase_of, queued, room, shard_unfinished, waiting, places, answered, replays, IsUnanswered}
use Rattle.registry_server.specs.declared.shard.Shard.{Shard}
use Rattle.registry_server.specs.declared.shard.Step.{Step}
use Rattle.registry_server.specs.declared.shard.Step.TheVariants.{Queue, Propose, Promise, Accept, Learn, Hold}
use Rattle.registry_server.specs.declared.shard.Test.{Test}
use Rattle.registry_server.specs.declared.shard.Test.TheVariants.{MayPropose, IsUnfinished, IsBelowHorizon}

abbrev pub proposal_of : Proposer → Proposal
proposal_of p = record { ballot = ballot_of p; own = own_of p; phase = phase_of p }

-- the state of a shard that learned these values
abbrev pub state_of : Shard → List Batch → ShardState
state_of h learned = record { learned = learned; queue = waiting h.queue; proposal = option_map proposal_of h.proposal; held = h.held }

-- the phase isn't the end
abbrev pub is_going : Phase Batch → Bool
is_going Ended = false
is_going _ = true

-- The shard learned these values: the registry knows them, the next slot is their number, a proposal is for a slot below
-- the limit and goes on, and they answer none of the inserts that wait.
pub record HasLearned (h : Shard) (learned : List Batch) : Type 0 where
  pub known : Knows h.registry learned
  pub next : h.next ≡ length learned
  pub goes : IfSome (option_map proposal_of h.proposal) (λ p. (is_below_limit (length learned) ≡ true) × (is_going p.phase ≡ true))
  pub waits : IsUnanswered learned (waiting h.queue)

-- the shard stands for the state
pub record IsShard (h : Shard) (st : ShardState) : Type 0 where
  pub learned : HasLearned h st.learned
  pub is : st ≡ state_of h st.learned

-- one insert more waits, unless its token waits or as many as may
abbrev pub put_last : List Insert → Insert → List Insert
put_last q x = if queued q x.token || nat_le MOST_WAITING (length q) then q else q ++ x ∷ []

abbrev pub counts_promise : ℕ → Option (Ballot × Batch) → Proposal → Proposal
counts_promise r prior p = record { ballot = p.ballot; own = p.own; phase = (on_promise p.own p.phase r prior).0 }

abbrev pub counts_accepted : ℕ → Proposal → Proposal
counts_accepted r p = record { ballot = p.ballot; own = p.own; phase = (on_accepted p.phase r).0 }

-- the state of a shard after a step
abbrev pub stepped : Setting → ℕ → Step → ShardState → ShardState
stepped g site (Queue x) st = record st { queue = put_last st.queue x }
stepped g site (Propose p) st = record st { proposal = Some (proposal_of p) }
stepped g site (Promise r prior) st = record st { proposal = option_map (counts_promise r prior) st.proposal }
stepped g site (Accept r) st = record st { proposal = option_map (counts_accepted r) st.proposal }
stepped g site (Learn v told) st = learns g site st v
stepped g site Hold st = record st { proposal = None; held = true }

-- an acceptance of the replica isn't the one that ends the proposal
abbrev pub NotLast : ℕ → Option Proposal → Type 0
NotLast r None = ⊤
NotLast r (Some p) = is_some (on_accepted p.phase r).1 ≡ false

-- whatever the registry knows doesn't answer the insert
abbrev pub IsUnknown : Shard → Insert → Type 0
IsUnknown h x = (vs : List Batch) → Knows h.registry vs → replays vs x ≡ None

-- these are what waits and what the value answers, where nothing else answers any
abbrev pub TellsAnswered : Shard → Batch → List (Insert × Answer) → Type 0
TellsAnswered h v told = (vs : List Batch) → Knows h.registry vs → IsUnanswered vs (waiting h.queue) → told ≡ answered (replays (vs ++ v ∷ [])) (waiting h.queue)

-- the shard has what the step needs: room, a slot below the limit, and the right answers
abbrev pub FitsStep : Step → Shard → Type 0
FitsStep (Queue x) h = (0 < places h.queue) × IsUnknown h x
FitsStep (Propose p) h = (is_below_limit h.next ≡ true) × (is_going (phase_of p) ≡ true)
FitsStep (Accept r) h = NotLast r (option_map proposal_of h.proposal)
FitsStep (Learn v told) h = (length v.inserts ≤ room h.registry) × (h.next < LAST_SLOT) × TellsAnswered h v told
FitsStep _ h = ⊤

-- what a test of a shard says
abbrev pub passes : Setting → Test → ShardState → Bool
passes g MayPropose st = may_propose g st
passes g IsUnfinished st = shard_unfinished g st
passes g IsBelowHorizon st = nat_lt (bound_of st.learned) g.config.horizon

-- the same by what it asks: whether there is no proposal, the shard is held back, nothing waits, the bound is below the
-- horizon, and the slot below the limit
abbrev pub says : Test → (free held empty below low : Bool) → Bool
says MayPropose free held empty below low = (free && not held) && ((not empty || below) && low)
says IsUnfinished free held empty below low = (not free || held) || (not empty || below)
says IsBelowHorizon free held empty below low = below

-- each shard of the list stands for the state of its number
abbrev pub EachStands : List Shard → (ℕ → ShardState) → Type 0
EachStands xs f = (s : ℕ) (d : Shard) → s < length xs → IsShard (get_or xs s d) (f s)
