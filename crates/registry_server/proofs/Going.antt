-- A proposal goes on until a majority has accepted its value.
use Rattle.std.proofs.Common.{◌≡◌, ℕ, ◌<◌, true, false, cond, is_some, List, length, Some, None, sym, ap, ◌∙◌, subst, arith, Option, option_map, Bool}
use Rattle.registry_server.proofs.Words.{cond_both, cond-true, and_parts, and_from, and_left, and_right, lt-ltb, eq-eqb, eqb-true, false_from_ne_true, cond_some, none-some, tied_itself, is_eq, Ballot, is_same, ballots_total, Batch, Place, Phase, is_new, on_promise, with_acceptance, on_accepted, Accepting, Proposer, ballot_of, own_of, phase_of, promise_turn, acceptance_turn, Setting, shards, Out, idle, ServerLive, ShardState, Proposal, is_current, proposal_of, current_in, current_of, Shard}

pub same_itself : (b : Ballot) → is_same b b ≡ true
same_itself b = ap is_eq (tied_itself ballots_total b)

-- the value that a majority accepted
pub accepted_value : (phase : Phase Batch) (r : ℕ) (w : Batch) → is_some (on_accepted phase r).1 ≡ true → ((marks : List Bool) (v : Batch) → phase ≡ Accepting v marks → w ≡ v) → (on_accepted phase r).1 ≡ Some w
accepted_value k r w h is = grind (arith, cond_both, is_new, with_acceptance)

-- the proposal at a slot and ballot
pub current_is : (slot next : ℕ) (b : Ballot) (o : Option Proposer) (p : Proposer) → Some p ≡ current_in slot b next o → (o ≡ Some p) × (slot ≡ next) × (ballot_of p ≡ b)
current_is slot next b h p e = grind (arith, is_same, ballot_of, cond_some, and_parts, eqb-true)

pub is_turn : (p : Proposer) (r : ℕ) (b : Ballot) (prior : Option (Ballot × Batch)) → ballot_of p ≡ b → promise_turn p r b prior ≡ on_promise (own_of p) (phase_of p) r prior
is_turn p r b prior e = cond-true (is_same b (ballot_of p)) _ _ (subst (λ z. is_same b z ≡ true) (sym e) (same_itself b))

pub is_acceptance : (p : Proposer) (r : ℕ) (b : Ballot) → ballot_of p ≡ b → acceptance_turn p r b ≡ on_accepted (phase_of p) r
is_acceptance p r b e = cond-true (is_same b (ballot_of p)) _ _ (subst (λ z. is_same b z ≡ true) (sym e) (same_itself b))

-- A row that looks for the proposal at a place and ballot: F makes it of the shard's proposal.
module _ (g : Setting) (at : Place) (b : Ballot) (st : ShardState) (l : ServerLive) (h : Shard) (next : h.next ≡ length st.learned) (is : st.proposal ≡ option_map proposal_of h.proposal) (F : Option Proposal → Out ServerLive) where
  pub row_some : at.shard < shards g → (G : Proposal → Out ServerLive) → ((q : Proposal) → F (Some q) ≡ cond (is_current g at b st q) (G q) (idle l)) → (p : Proposer) → Some p ≡ current_of h at.slot b → F st.proposal ≡ G (proposal_of p)
  row_some w G f p s =
      let c = current_is at.slot h.next b h.proposal p s in
      let q : st.proposal ≡ Some (proposal_of p) = is ∙ ap (option_map proposal_of) c.0 in
      let same : is_same (ballot_of p) b ≡ true = subst (λ z. is_same (ballot_of p) z ≡ true) c.2 (same_itself (ballot_of p)) in
      let test : is_current g at b st (proposal_of p) ≡ true = and_from _ _ (and_from _ _ (lt-ltb at.shard (shards g) w) (eq-eqb at.slot (length st.learned) (c.1 ∙ next))) same in
      ap F q ∙ f (proposal_of p) ∙ cond-true (is_current g at b st (proposal_of p)) _ _ test

  pub row_none : F None ≡ idle l → ((q : Proposal) → is_current g at b st q ≡ false → F (Some q) ≡ idle l) → None ≡ current_of h at.slot b → F st.proposal ≡ idle l
  row_none z f s = grind (arith, current_in, proposal_of, idle, is_same, ballot_of, false_from_ne_true, none-some, cond-true, and_left, and_right)
