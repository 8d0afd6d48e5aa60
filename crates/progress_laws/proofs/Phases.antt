-- The phases of an attempt: what is asked and answered, who is counted, and what a promise or an acceptance makes of it.
use Rattle.std.proofs.Common.{◌≡◌, ◌⊎◌, inl, inr, ⊎_elim, ℕ, zero, suc, ◌+◌, ◌*◌, ◌<◌, ◌≤◌, Bool, true, false, List, ◌∷◌, length, set, replicate, Some, None, refl, ap, arith, []}
use Rattle.std.specs.Prelude.{Option, slice_get, ⊤}
use Rattle.progress_laws.proofs.Words.{cases_lt, cases_Bool, le-ltb, not-false, length-set, length-replicate, Ballot, marked, is_same, same_false, Batch, Place, Phase, is_new, is_most, nobody, on_promise, on_accepted, Promising, Accepting, Ended, Mem, Setting, Packet, Prepare, Promise, Nack, Accept, Accepted, Replica, Only, ServerLive, Proposal, to_from, IfUp, World}

-- the phase counts each of so many replicas, and no majority of them yet
abbrev pub IsOpen : ℕ → Phase Batch → Type 0
IsOpen n (Promising marks best) = (length marks ≡ n) × (is_most marks ≡ false)
IsOpen n (Accepting v marks) = (length marks ≡ n) × (is_most marks ≡ false)
IsOpen n Ended = ⊥

abbrev pub IfOpen : ℕ → Option Proposal → Type 0
IfOpen n None = ⊤
IfOpen n (Some p) = IsOpen n p.phase

-- so it is in each proposal of the servers that are up
abbrev pub AreOpen : Setting → World → Type 0
AreOpen g w = (s : ℕ) → IfUp (λ (l : ServerLive). (k : ℕ) → IfOpen g.config.replicas (l.shards k).proposal) (w.servers s).live

-- what a proposal asks each replica
abbrev pub question : Place → Ballot → Phase Batch → Packet
question at b (Promising marks best) = Prepare at b
question at b (Accepting v marks) = Accept at b v
question at b Ended = Prepare at b

-- a replica's answer to it
abbrev pub IsAnswer : Place → Ballot → Phase Batch → Packet → Type 0
IsAnswer at b (Promising marks best) q = ((prior : Option (Ballot × Batch)) × (q ≡ Promise at b prior)) ⊎ ((c : Ballot) × (q ≡ Nack at b c))
IsAnswer at b (Accepting v marks) q = (q ≡ Accepted at b) ⊎ ((c : Ballot) × (q ≡ Nack at b c))
IsAnswer at b Ended q = ⊥

-- the replica is counted
abbrev pub HasMark : ℕ → Phase Batch → Type 0
HasMark r (Promising marks best) = slice_get marks r ≡ Some true
HasMark r (Accepting v marks) = slice_get marks r ≡ Some true
HasMark r Ended = ⊥

-- ---- marks

pub marked_now : (marks : List Bool) (r : ℕ) → r < length marks → slice_get (set marks r true) r ≡ Some true
marked_now [] r lt = absurd (omega (arith, lt))
marked_now (m ∷ marks) zero lt = refl
marked_now (m ∷ marks) (suc r) lt = marked_now marks r (omega arith)

marks_stay : (marks : List Bool) (k r : ℕ) → slice_get marks r ≡ Some true → slice_get (set marks k true) r ≡ Some true
marks_stay (m ∷ marks) zero zero h = refl
marks_stay (m ∷ marks) (suc k) (suc r) h = marks_stay marks k r h
marks_stay _ _ _ h = h

pub was_marked : (marks : List Bool) (r : ℕ) → r < length marks → is_new marks r ≡ false → slice_get marks r ≡ Some true
was_marked [] r lt e = absurd (omega (arith, lt))
was_marked (m ∷ marks) zero lt e = ap Some (not-false m e)
was_marked (m ∷ marks) (suc r) lt e = was_marked marks r (omega arith) e

none_marked : (n : ℕ) → marked (replicate n false) ≡ 0
none_marked zero = refl
none_marked (suc n) = none_marked n

pub nobody_open : (n : ℕ) → is_most (nobody n) ≡ false
nobody_open n = le-ltb (length (nobody n)) (2 * marked (nobody n)) (let a = none_marked n in let b : 2 * marked (nobody n) ≡ 0 = ap (λ x. 2 * x) a in omega (arith, b))

pub same_self : (b : Ballot) → is_same b b ≡ true
same_self b = ⊎_elim (λ t. t) (λ f. absurd (same_false b b f refl)) (cases_Bool (is_same b b))

-- ---- phases

-- a phase goes on: it asks and is answered the same, and whoever is counted still is
pub record PhaseGoes (was now : Phase Batch) : Type 0 where
  pub asks : (at : Place) (b : Ballot) → question at b was ≡ question at b now
  pub hears : (at : Place) (b : Ballot) (q : Packet) → IsAnswer at b was q → IsAnswer at b now q
  pub marks : (r : ℕ) → HasMark r was → HasMark r now

pub phase_same : (p : Phase Batch) → PhaseGoes p p
phase_same p = record { asks = λ at b. refl; hears = λ at b q a. a; marks = λ r h. h }

pub promises_no_more : (marks now : List Bool) (best : Option (Ballot × Batch)) (v : Batch) → Place → Ballot → PhaseGoes (Promising marks best) (Accepting v now) → ⊥
promises_no_more marks now best v at b h = differ (h.asks at b)
  where
    differ : Prepare at b ≡ Accept at b v → ⊥
    differ e = cc

-- a promise: the phase goes on, or the value is sent
pub promise_goes : (own : Batch) (p : Phase Batch) (r : ℕ) (prior : Option (Ballot × Batch)) → (((on_promise own p r prior).1 ≡ None) × PhaseGoes p (on_promise own p r prior).0) ⊎ ((v : Batch) × (marks : List Bool) × ((on_promise own p r prior).1 ≡ Some v) × ((on_promise own p r prior).0 ≡ Accepting v marks))
promise_goes own p r prior = grind (arith, marks_stay)

pub accepted_goes : (p : Phase Batch) (r : ℕ) → (on_accepted p r).1 ≡ None → PhaseGoes p (on_accepted p r).0
accepted_goes p r = grind (arith, marks_stay)

-- an open phase stays open, until it ends
pub promise_open : (n : ℕ) (own : Batch) (p : Phase Batch) (r : ℕ) (prior : Option (Ballot × Batch)) → IsOpen n p → IsOpen n (on_promise own p r prior).0
promise_open n own p r prior = grind (arith, length-replicate, length-set, nobody_open)

pub accepted_open : (n : ℕ) (p : Phase Batch) (r : ℕ) → IsOpen n p → (on_accepted p r).1 ≡ None → IsOpen n (on_accepted p r).0
accepted_open n p r = grind (arith, length-set)

pub mem_to : (r from n : ℕ) (p : Packet) → from ≤ r → r < from + n → Mem (Only (Replica r), p) (to_from from n p)
mem_to r from zero p a b = absurd (omega arith)
mem_to r from (suc n) p a b = ⊎_elim (λ lt. inr (mem_to r (suc from) n p lt (omega arith))) (λ ge. inl (ap (λ x. (Only (Replica x), p)) (let e : from ≡ r = omega arith in e))) (cases_lt from r)
