-- Each bound that is offered is the horizon, or stood in an accepted record before the run.
use Rattle.std.proofs.Common.{◌≡◌, inl, ℕ, List, Some, None, refl, subst, arith, Option}
use Rattle.photon_model.proofs.Words.{Ballot, Batch, higher, value_for, Phase, on_promise, on_accepted, Promising, Accepting, Ended, IsGrant, Mem, set_at, Setting, shard, Packet, Promise, Place, Node, Replica, Input, Deliver, ServerKept, ServerLive, ShardState, Proposal, accepted, server_turn, at_set, Offer, Votes, offer, VotesOf, VotesAgree, IsBoundOk}
use Rattle.photon_model.proofs.ServerRows.{every_row, higher_both, promise_cases, accept_cases}

abbrev pub BestBound : Setting → List ℕ → Option (Ballot × Batch) → Type 0
BestBound g old None = Unit {0}
BestBound g old (Some x) = IsBoundOk g old x.1.bound

abbrev pub PhaseBound : Setting → List ℕ → Phase Batch → Type 0
PhaseBound g old (Promising marks best) = BestBound g old best
PhaseBound g old (Accepting v marks) = IsBoundOk g old v.bound
PhaseBound g old Ended = Unit {0}

abbrev pub OwnBound : Setting → List ℕ → Option Proposal → Type 0
OwnBound g old None = Unit {0}
OwnBound g old (Some p) = IsBoundOk g old p.own.bound × PhaseBound g old p.phase

abbrev pub BoundsOf : Setting → List ℕ → ServerLive → Type 0
BoundsOf g old l = (t : ℕ) → OwnBound g old (l.shards t).proposal

module _ (g : Setting) (old : List ℕ) (site : ℕ) (n : Votes) (agree : VotesAgree n) (offers : (x : Offer) → Mem x n.offered → IsBoundOk g old x.value.bound) (k : ServerKept) (l : ServerLive) (holds : BoundsOf g old l) where
  sets : (s : ℕ) (st : ShardState) → OwnBound g old st.proposal → (t : ℕ) → OwnBound g old (set_at l.shards s st t).proposal
  sets s st o = at_set (λ t (u : ShardState). OwnBound g old u.proposal) l.shards s st o holds

  stood : (s : ℕ) (p : Proposal) → (l.shards s).proposal ≡ Some p → OwnBound g old (Some p)
  stood s p e = subst (OwnBound g old) e (holds s)

  grant_bound : (r : ℕ) (at : Place) (b : Ballot) (o : Option (Ballot × Batch)) → IsGrant n.journals r at b o → BestBound g old o
  grant_bound r at b None h = tt
  grant_bound r at b (Some x) h = offers (offer at x.0 x.1) (agree.took at r x.0 x.1 h.1)

  value_bound : (own : Batch) (o : Option (Ballot × Batch)) → IsBoundOk g old own.bound → BestBound g old o → IsBoundOk g old (value_for own o).bound
  value_bound own o h i = grind arith

  promise_phase : (own : Batch) (phase : Phase Batch) (r : ℕ) (o : Option (Ballot × Batch)) → IsBoundOk g old own.bound → PhaseBound g old phase → BestBound g old o → PhaseBound g old (on_promise own phase r o).0
  promise_phase own phase r o h i q =
      promise_cases own r o (λ y t. PhaseBound g old y → PhaseBound g old t.0) (λ y x. x) (λ marks best most x. value_bound own (higher best o) h (higher_both (BestBound g old) best o x q)) (λ marks best few x. higher_both (BestBound g old) best o x q) phase i

  accepted_bounds : (at : Place) (p : Proposal) → IsBoundOk g old p.own.bound → (phase : Phase Batch) → PhaseBound g old phase → (o : Option Batch) → BoundsOf g old (accepted g site k l at (l.shards at.shard) p phase o).live
  accepted_bounds at p h phase i o = grind arith

  pub turn_bounds : (i : Input) → ((from : Node) (p : Packet) → i ≡ Deliver from p → VotesOf n from p) → BoundsOf g old (server_turn g site k l i).live
  turn_bounds =
      every_row g site k l (λ i o. ((from : Node) (p : Packet) → i ≡ Deliver from p → VotesOf n from p) → BoundsOf g old o.live)
      (record {
        idles = λ i v. holds;
        ticks = λ v. holds;
        draws = λ s may v. sets s _ (inl refl, tt);
        answers = λ from x a e v. holds;
        queues = λ from x v. sets (shard g x.id) _ (holds (shard g x.id));
        learns_of = λ from at x e v. sets at.shard _ tt;
        promises = λ r at b o p e c v. let h = stood at.shard p e in sets at.shard _ (h.0, promise_phase p.own p.phase r o h.0 h.1 (grant_bound r at b o (v (Replica r) (Promise at b o) refl)));
        accepts = λ r at b p e c v. let h = stood at.shard p e in accepted_bounds at p h.0 (on_accepted p.phase r).0 (accept_cases r (λ y t. PhaseBound g old y → PhaseBound g old t.0) (λ y x. x) (λ u marks most x. tt) (λ u marks few x. x) p.phase h.1) (on_accepted p.phase r).1;
        refuses = λ r at b above p e c v. sets at.shard _ tt;
      })
