-- A proposer as the phase of its attempt.
use Rattle.std.specs.Prelude.{◌≡◌, ℕ, List, Bool, true, set, if◌then◌else◌, Option, Some, None}
use Rattle.std.specs.Borrow.{Bor}
use Rattle.ballot_core.specs.declared.Ballot.{Ballot}
use Rattle.ballot_core.specs.Ballots.{is_same}
use Rattle.registry_state.specs.declared.Batch.{Batch}
use Rattle.paxos_defs.specs.Turns.{value_for}
use Rattle.paxos_defs.specs.Attempts as attempts
use Rattle.paxos_defs.specs.Attempts.{Phase, is_new, is_most, on_promise, on_accepted}
use Rattle.paxos_proposer.specs.declared.proposer.Proposer.{Proposer}
use Rattle.paxos_proposer.specs.declared.proposer.Stage.{Stage}
use Rattle.paxos_proposer.specs.declared.proposer.Stage.TheVariants as stage

abbrev pub slot_of : Proposer → ℕ
slot_of p = p.slot

abbrev pub ballot_of : Proposer → Ballot
ballot_of p = p.ballot

-- the batch that it was started with
abbrev pub own_of : Proposer → Batch
own_of p = p.own

-- that of the highest prior told so far, or its own where none came
abbrev pub value_of : Proposer → Batch
value_of p = value_for p.own p.best

abbrev pub phase_at : Proposer → Stage → Phase Batch
phase_at p stage.Promising = attempts.Phase.Promising p.heard p.best
phase_at p stage.Accepting = attempts.Phase.Accepting (value_of p) p.heard
phase_at p stage.Ended = attempts.Phase.Ended

abbrev pub phase_of : Proposer → Phase Batch
phase_of p = phase_at p p.stage

-- The turns on a promise and on an acceptance: the next phase, and the value that is sent or chosen. An answer to another
-- ballot changes nothing.
abbrev pub promise_turn : Proposer → ℕ → Ballot → Option (Ballot × Batch) → Phase Batch × Option Batch
promise_turn p from b prior = if is_same b (ballot_of p) then on_promise (own_of p) (phase_of p) from prior else (phase_of p, None)

abbrev pub acceptance_turn : Proposer → ℕ → Ballot → Phase Batch × Option Batch
acceptance_turn p from b = if is_same b (ballot_of p) then on_accepted (phase_of p) from else (phase_of p, None)

-- It is for the same slot, at the same ballot, of the same batch.
pub record IsSameProposal (old new : Proposer) : Type 0 where
  pub slot : slot_of new ≡ slot_of old
  pub ballot : ballot_of new ≡ ballot_of old
  pub own : own_of new ≡ own_of old

-- r is a member that hasn't answered, and with it more than half have
pub record MakesMajority (marks : List Bool) (r : ℕ) : Type 0 where
  pub fresh : is_new marks r ≡ true
  pub most : is_most (set marks r true) ≡ true

-- a promise of replica r is the one that makes the majority
abbrev pub IsLastPromise : Phase Batch → ℕ → Type 0
IsLastPromise (attempts.Phase.Promising marks best) r = MakesMajority marks r
IsLastPromise (attempts.Phase.Accepting v marks) r = ⊥
IsLastPromise attempts.Phase.Ended r = ⊥

-- so is an acceptance
abbrev pub IsLastAcceptance : Phase Batch → ℕ → Type 0
IsLastAcceptance (attempts.Phase.Promising marks best) r = ⊥
IsLastAcceptance (attempts.Phase.Accepting v marks) r = MakesMajority marks r
IsLastAcceptance attempts.Phase.Ended r = ⊥

-- the second phase, in which the value is sent
abbrev pub IsAccepting : Phase Batch → Type 0
IsAccepting (attempts.Phase.Promising marks best) = ⊥
IsAccepting (attempts.Phase.Accepting v marks) = Unit {0}
IsAccepting attempts.Phase.Ended = ⊥

-- a prior that is lent
abbrev pub prior_of : Option (Ballot × Bor Batch) → Option (Ballot × Batch)
prior_of None = None
prior_of (Some x) = Some (x.0, x.1.now)
