-- What becomes of an attempt in a server's turn that takes an answer to it, or a Tick.
use Rattle.std.proofs.Common.{◌≡◌, ◌⊎◌, inl, inr, ⊎_elim, ℕ, zero, suc, ◌+◌, ◌<◌, ◌≤◌, Bool, true, cond, ◌==◌, List, length, Some, None, refl, sym, ap, ◌∙◌, subst, arith, Option}
use Rattle.progress_laws.proofs.Words.{cond-true, eq-eqb, lt-ltb, and_from, Ballot, Batch, Phase, on_promise, on_accepted, Promising, Accepting, Ended, Mem, set_at, some_same, mem_left, mem_right, Setting, shards, Out, idle, Packet, Replica, To, Only, Own, Tick, Deliver, ServerKept, ServerLive, ShardState, Proposal, is_current, promised, again, all_again, gets_promise, gets_accepted, gets_nack, server_turn, next_of}
use Rattle.progress_laws.proofs.Phases.{IsOpen, IsAnswer, HasMark, question, PhaseGoes, promises_no_more, marked_now, was_marked, same_self, promise_goes, promise_open, mem_to}
use Rattle.progress_laws.proofs.Turning.{AsksAll, IsKept, promised_turns}

module _ (g : Setting) (site : ℕ) (k : ServerKept) (l : ServerLive) where
  -- ---- an answer to the attempt, and a Tick

  module _ (n : ℕ) (below : n < shards g) (p : Proposal) (stands : (l.shards n).proposal ≡ Some p) (open_ : IsOpen g.config.replicas p.phase) where
    -- where the attempt still stands its question goes to all, or the replica is counted
    abbrev pub Counts : ℕ → Out ServerLive → Type 0
    Counts r o = (now : Proposal) → (o.live.shards n).proposal ≡ Some now → AsksAll g site k l n (o.live.shards n) now o.packets ⊎ HasMark r now.phase

    current : is_current g (next_of n (l.shards n)) p.ballot (l.shards n) p ≡ true
    current = and_from _ _ (and_from _ _ (lt-ltb n (shards g) below) (eq-eqb (length (l.shards n).learned) (length (l.shards n).learned) refl)) (same_self p.ballot)

    set_now : (st : ShardState) → set_at l.shards n st n ≡ st
    set_now st = cond-true (n == n) st (l.shards n) (eq-eqb n n refl)

    current_both : (r : ℕ) (x : Out ServerLive) → Counts r x → Counts r (cond (is_current g (next_of n (l.shards n)) p.ballot (l.shards n) p) x (idle l))
    current_both r x h = subst (Counts r) (sym (cond-true (is_current g (next_of n (l.shards n)) p.ballot (l.shards n) p) x (idle l) current)) h

    abbrev after_promise : ℕ → Option (Ballot × Batch) → Out ServerLive
    after_promise r prior = promised g site k l (next_of n (l.shards n)) (l.shards n) p (on_promise p.own p.phase r prior)

    counted : (r : ℕ) (prior : Option (Ballot × Batch)) → r < g.config.replicas → (marks : List Bool) (best : Option (Ballot × Batch)) → IsOpen g.config.replicas (Promising marks best) → PhaseGoes (Promising marks best) (on_promise p.own (Promising marks best) r prior).0 → HasMark r (on_promise p.own (Promising marks best) r prior).0
    counted r prior lt marks best o = grind (arith, promises_no_more, marked_now, was_marked)

    promise_counts : (r : ℕ) (prior : Option (Ballot × Batch)) → r < g.config.replicas → (marks : List Bool) (best : Option (Ballot × Batch)) → p.phase ≡ Promising marks best → Counts r (after_promise r prior)
    promise_counts r prior lt marks best phase now q =
        ⊎_elim (λ a. inl a) (λ (a : IsKept g site k l n ((after_promise r prior).live.shards n) now). inr (grind (arith, counted)))
        ((promised_turns g site k l Own (next_of n (l.shards n)) p stands refl (on_promise p.own p.phase r prior).0 (on_promise p.own p.phase r prior).1 (promise_goes p.own p.phase r prior) (promise_open g.config.replicas p.own p.phase r prior)).follows n now q)
      where
        now_is : (on_promise p.own p.phase r prior).0 ≡ now.phase
        now_is = ap (λ (y : Proposal). y.phase) (some_same _ now (sym (ap (λ (c : ShardState). c.proposal) (set_now (record (l.shards n) { proposal = Some (record { ballot = p.ballot; own = p.own; phase = (on_promise p.own p.phase r prior).0 }) }))) ∙ q))

    -- an acceptance ends the attempt, or is counted
    acceptance_counted : (r : ℕ) → r < g.config.replicas → (v : Batch) (marks : List Bool) → IsOpen g.config.replicas (Accepting v marks) → (on_accepted (Accepting v marks) r).1 ≡ None → HasMark r (on_accepted (Accepting v marks) r).0
    acceptance_counted r lt v marks o = grind (arith, marked_now, was_marked)

    -- an answer of a replica to the attempt counts
    pub answer_counts : (r : ℕ) → r < g.config.replicas → (x : Packet) → IsAnswer (next_of n (l.shards n)) p.ballot p.phase x → Counts r (server_turn g site k l (Deliver (Replica r) x))
    answer_counts r lt x = by_phase p.phase refl
      where
        by_phase : (y : Phase Batch) → p.phase ≡ y → IsAnswer (next_of n (l.shards n)) p.ballot y x → Counts r (server_turn g site k l (Deliver (Replica r) x))
        by_phase (Promising marks best) e (inl (prior, q)) =
            subst (λ (y : Packet). Counts r (server_turn g site k l (Deliver (Replica r) y))) (sym q)
            (subst (λ o. Counts r (gets_promise g site k l r (next_of n (l.shards n)) p.ballot prior (l.shards n) o)) (sym stands) (current_both r _ (promise_counts r prior lt marks best e)))
        by_phase (Accepting v marks) e (inl q) =
            subst (λ (y : Packet). Counts r (server_turn g site k l (Deliver (Replica r) y))) (sym q)
            (subst (λ o. Counts r (gets_accepted g site k l r (next_of n (l.shards n)) p.ballot (l.shards n) o)) (sym stands) (current_both r _ (grind (arith, acceptance_counted))))
        by_phase Ended e a = absurd a
        by_phase _ e (inr (c, q)) = subst (λ (y : Packet). Counts r (server_turn g site k l (Deliver (Replica r) y))) (sym q) (grind (arith, gets_nack, next_of, current_both))

    in_all : (a : To × Packet) (from m : ℕ) → from ≤ n → n < from + m → Mem a (again g site k l n (l.shards n) (l.shards n).proposal) → Mem a (all_again g site k l from m)
    in_all a from zero x y h = absurd (omega arith)
    in_all a from (suc m) x y h = grind (arith, mem_right, mem_left, in_all a (suc from) m)

    pub tick_asks : (r : ℕ) → r < g.config.replicas → Mem (Only (Replica r), question (next_of n (l.shards n)) p.ballot p.phase) (server_turn g site k l Tick).packets
    tick_asks r lt = in_all _ 0 (shards g) (omega arith) (omega arith) (subst (λ o. Mem (Only (Replica r), question (next_of n (l.shards n)) p.ballot p.phase) (again g site k l n (l.shards n) o)) (sym stands) (grind (arith, mem_to)))
