-- The rows that look for the proposal at a place and ballot, and those that learn a value.
use Rattle.std.proofs.Common.{◌≡◌, ℕ, ◌-◌, ◌<◌, ◌≤◌, ◌&&◌, Bool, true, false, is_some, List, [], ◌∷◌, length, Some, None, refl, sym, ap, ◌∙◌, subst, arith, Option, option_map}
use Rattle.registry_server.proofs.Words.{LAST_SLOT, cond-false, and_left, and_right, le-ltb, ne_eqb, Ballot, Batch, Place, Phase, on_promise, on_accepted, Proposer, ballot_of, own_of, phase_of, promise_turn, acceptance_turn, Packet, AcceptPacket, Chosen, Node, Server, Only, Setting, idle, ServerKept, ServerLive, is_below_limit, is_next, to_replicas, accept_if, promised, accepted, gets_promise, gets_accepted, gets_chosen, setting, sent, NotLast, proposal_of, counts_promise, Gives, IsStep, IsAt, FitsAt, Out, Proposal, is_current, accept_all, current_of, learns_behind, Station, Shard, Promise, Accept, Change, Turn}
use Rattle.registry_server.specs.declared.turn.Change.TheVariants as change
use Rattle.registry_server.proofs.Going.{current_is, is_turn, is_acceptance, accepted_value, row_some, row_none}
use Rattle.registry_server.proofs.Rowing.{proposal_is, one_gives, same_row}

abbrev at_slot : ℕ → ℕ → Place
at_slot n slot = record { shard = n; slot = slot }

-- an acceptance that isn't the last one fits
pub accept_fits : (h : Shard) (n r from slot : ℕ) (b : Ballot) (p : Proposer) (ch : Change) → Some p ≡ current_of h slot b → is_some (acceptance_turn p from b).1 ≡ false → ch ≡ change.One n r (Accept from) → FitsAt n ch h
accept_fits h n r from slot b p ch s e ec =
    let c = current_is slot h.next b h.proposal p s in
    let few : is_some (on_accepted (phase_of p) from).1 ≡ false = subst (λ (t : Phase Batch × Option Batch). is_some t.1 ≡ false) (is_acceptance p from b c.2) e in
    subst (λ (z : Change). FitsAt n z h) (sym ec) (refl, subst (λ (o : Option Proposer). NotLast from (option_map proposal_of o)) (sym c.0) few)

module _ (g : Setting) (site : ℕ) (k : ServerKept) (l : ServerLive) (n r : ℕ) (h : Shard) (at : IsAt g h n r l) (slot : ℕ) where
  next_is : h.next ≡ length (l.shards n).learned
  next_is = at.stands.learned.next

  module _ (b : Ballot) where
    -- there is no such proposal
    pub none_gives : (F : Option Proposal → Out ServerLive) (turn : Turn) → None ≡ current_of h slot b → F None ≡ idle l → ((q : Proposal) → is_current g (at_slot n slot) b (l.shards n) q ≡ false → F (Some q) ≡ idle l) → Gives g site l turn (idle l) → Gives g site l turn (F (l.shards n).proposal)
    none_gives F turn s none some gives = same_row g site l turn _ _ (row_none g (at_slot n slot) b (l.shards n) l h next_is (proposal_is h (l.shards n) at.stands) F none some s) gives

    module _ (p : Proposer) (s : Some p ≡ current_of h slot b) where
      is_now : (l.shards n).proposal ≡ Some (proposal_of p)
      is_now = proposal_is h (l.shards n) at.stands ∙ ap (option_map proposal_of) (current_is slot h.next b h.proposal p s).0

      same_ballots : ballot_of p ≡ b
      same_ballots = (current_is slot h.next b h.proposal p s).2

      pub accepted_some : (from : ℕ) → gets_accepted g site k l from (at_slot n slot) b (l.shards n) (l.shards n).proposal
          ≡ accepted g site k l (at_slot n slot) (l.shards n) (proposal_of p) (on_accepted (phase_of p) from).0 (on_accepted (phase_of p) from).1
      accepted_some from =
          row_some g (at_slot n slot) b (l.shards n) l h next_is (proposal_is h (l.shards n) at.stands) (gets_accepted g site k l from (at_slot n slot) b (l.shards n)) at.within
          (λ q. accepted g site k l (at_slot n slot) (l.shards n) q (on_accepted q.phase from).0 (on_accepted q.phase from).1) (λ q. refl) p s

      -- one acceptance more is counted
      pub counted_gives : (from : ℕ) (turn : Turn) (items : List (Node × Packet)) → is_some (acceptance_turn p from b).1 ≡ false → IsStep turn n r items (Accept from) → sent items ≡ []
          → Gives g site l turn (gets_accepted g site k l from (at_slot n slot) b (l.shards n) (l.shards n).proposal)
      counted_gives from turn items e is es = grind (arith, is_acceptance, same_ballots, same_row, accepted_some, is_now)

      -- the value is chosen
      pub chosen_gives : (from : ℕ) (w : Batch) (turn : Turn) (items : List (Node × Packet)) → is_some (acceptance_turn p from b).1 ≡ true → ((marks : List Bool) (v : Batch) → phase_of p ≡ Phase.Accepting v marks → w ≡ v)
          → sent items ≡ (Only (Server (1 - site)), Chosen (at_slot n slot) w) ∷ [] → Gives g site l turn (learns_behind g site k l n w (sent items))
          → Gives g site l turn (gets_accepted g site k l from (at_slot n slot) b (l.shards n) (l.shards n).proposal)
      chosen_gives from w turn items e value es gives = grind (arith, accepted_value, is_acceptance, same_ballots, accepted_some)

  -- a value that the other server tells
  pub told_other : (v : Batch) → (slot ≡ h.next → ⊥) → gets_chosen g site k l (at_slot n slot) v (l.shards n) ≡ idle l
  told_other v ne = cond-false (is_next g (at_slot n slot) (l.shards n) && is_below_limit slot) _ (idle l) (and_left _ _ (and_right _ _ (ne_eqb slot (length (l.shards n).learned) (λ e. ne (e ∙ sym next_is)))))

  pub told_high : (v : Batch) → LAST_SLOT ≤ slot → gets_chosen g site k l (at_slot n slot) v (l.shards n) ≡ idle l
  told_high v most = cond-false (is_next g (at_slot n slot) (l.shards n) && is_below_limit slot) _ (idle l) (and_right _ _ (le-ltb slot LAST_SLOT most))

  pub told_gives : (v w : Batch) (turn : Turn) (items : List (Node × Packet)) → slot ≡ h.next → slot < LAST_SLOT → w ≡ v → items ≡ [] → Gives g site l turn (learns_behind g site k l n w (sent items))
      → Gives g site l turn (gets_chosen g site k l (at_slot n slot) v (l.shards n))
  told_gives v w turn items e low ev ei gives = grind (arith, next_is)

-- one promise more is counted
module _ (t : Station) (g : Setting) (k : ServerKept) (l : ServerLive) (n r : ℕ) (h : Shard) (at : IsAt (setting t g) h n r l) (slot : ℕ) (b : Ballot) where
  accept_same : (p : Proposer) (o : Option Batch) → ballot_of p ≡ b → accept_all t.config.replicas (at_slot n slot) b o ≡ accept_if (setting t g) t.site k l (at_slot n slot) (ballot_of p) o
  accept_same p None e = refl
  accept_same p (Some v) e = λ i. to_replicas t.config.replicas (AcceptPacket (at_slot n slot) (sym e i) v)

  pub promise_gives : (p : Proposer) → Some p ≡ current_of h slot b → (from : ℕ) (prior : Option (Ballot × Batch)) (turn : Turn) (items : List (Node × Packet)) → IsStep turn n r items (Promise from prior)
      → sent items ≡ accept_all t.config.replicas (at_slot n slot) b (promise_turn p from b prior).1
      → Gives (setting t g) t.site l turn (gets_promise (setting t g) t.site k l from (at_slot n slot) b prior (l.shards n) (l.shards n).proposal)
  promise_gives p s from prior turn items is es =
      let c = current_is slot h.next b h.proposal p s in
      let now : (l.shards n).proposal ≡ Some (proposal_of p) = proposal_is h (l.shards n) at.stands ∙ ap (option_map proposal_of) c.0 in
      let row = row_some (setting t g) (at_slot n slot) b (l.shards n) l h at.stands.learned.next (proposal_is h (l.shards n) at.stands) (gets_promise (setting t g) t.site k l from (at_slot n slot) b prior (l.shards n)) at.within
      (λ q. promised (setting t g) t.site k l (at_slot n slot) (l.shards n) q (on_promise q.own q.phase from prior)) (λ q. refl) p s in
      same_row (setting t g) t.site l turn _ _ row
      (one_gives (setting t g) t.site l turn n r l.round items (Promise from prior) _ _ is
      (es ∙ ap (λ (z : Phase Batch × Option Batch). accept_all t.config.replicas (at_slot n slot) b z.1) (is_turn p from b prior c.2) ∙ accept_same p (on_promise (own_of p) (phase_of p) from prior).1 c.2)
      (sym at.round) (λ i. record (l.shards n) { proposal = ap (option_map (counts_promise from prior)) now i }))
