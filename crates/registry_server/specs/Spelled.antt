-- What a server knows has spellings, so what it sends has them.
use Rattle.std.specs.Prelude.{ℕ, ◌^◌, ◌<◌, ◌≤◌, length, IfSome}
use Rattle.time_shards.specs.declared.TheConstants.{MAX_SHARDS}
use Rattle.registry_server.specs.Terms.{Accepting, Batch, Each, Ended, MOST_INSERTS, Phase, Promising, Proposal, ServerKept, ServerLive, Setting, ShardState, shards, IsInsert, IsBallot, IsBatch, IsPrior}

abbrev pub IsSpelledPhase : Phase Batch → Type 0
IsSpelledPhase (Promising marks best) = IsPrior best
IsSpelledPhase (Accepting v marks) = IsBatch v
IsSpelledPhase Ended = Unit {0}

-- a proposal is for a slot with a spelling
pub record IsSpelledProposal (at : ℕ) (p : Proposal) : Type 0 where
  pub slot : at < 2 ^ 48
  pub ballot : IsBallot p.ballot
  pub own : IsBatch p.own
  pub phase : IsSpelledPhase p.phase

pub record IsSpelledShard (st : ShardState) : Type 0 where
  pub learned : Each IsBatch st.learned
  pub queue : Each IsInsert st.queue
  pub proposal : IfSome st.proposal (IsSpelledProposal (length st.learned))

-- the numbers of the server and of its setting are in their ranges
pub record IsSpelledPlan (g : Setting) (n : ℕ) : Type 0 where
  pub site : n < 2
  pub horizon : g.config.horizon < 2 ^ 64
  pub batch : g.config.batch ≤ MOST_INSERTS
  pub shards : shards g ≤ MAX_SHARDS

-- so is all that it keeps and knows
pub record IsSpelledLive (k : ServerKept) (l : ServerLive) : Type 0 where
  pub epoch : k.epoch < 2 ^ 32
  pub round : l.round < 2 ^ 48
  pub each : (s : ℕ) → IsSpelledShard (l.shards s)
