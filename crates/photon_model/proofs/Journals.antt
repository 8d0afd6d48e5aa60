-- The list of the replicas' journals, and the notes that votes stand in.
use Rattle.std.proofs.Common.{◌≡◌, ◌≢◌, inl, inr, ⊎_elim, ℕ, zero, suc, ◌+◌, ◌<◌, ◌≤◌, List, [], ◌∷◌, ◌++◌, length, get_or, set, Some, refl, ap, ◌∙◌, subst, arith, slice_get}
use Rattle.std.proofs.lemmas.Bool.{cases_lt}
use Rattle.photon_model.proofs.Words.{Ballot, Place, Vote, acceptance, votes_at, votes_in as votes, Has, Took as Accepted, HasAccepted, JournalsAgree, IsExact, agreed_one, noted, Batch, same_batch, same_batch-true, same_batch-refl, Mem, Each, BallotNote, ReplicaKept, values_from, journals}
use Rattle.ballot_core.proofs.Meets.{some_member}
use Rattle.paxos_defs.proofs.Decided.{decided_is}
use Rattle.photon_model.specs.Journals.{decided}

-- ---- the values of a function as a list

pub values_length : {A : Type 0} (f : ℕ → A) (from n : ℕ) → length (values_from f from n) ≡ n
values_length f from zero = refl
values_length f from (suc n) = ap suc (values_length f (suc from) n)

pub values_same : {A : Type 0} (f h : ℕ → A) (from n : ℕ) → ((k : ℕ) → from ≤ k → k < from + n → f k ≡ h k) → values_from f from n ≡ values_from h from n
values_same f h from zero e = refl
values_same f h from (suc n) e = grind (arith, values_same f h (suc from) n)

pub values_mem : {A : Type 0} (f : ℕ → A) (from n k : ℕ) → from ≤ k → k < from + n → Mem (f k) (values_from f from n)
values_mem f from zero k a b = absurd (omega arith)
values_mem f from (suc n) k a b = ⊎_elim (λ lt. inr (values_mem f (suc from) n k lt (omega arith))) (λ ge. inl (ap f (let e : from ≡ k = omega arith in e))) (cases_lt from k)

pub values_each : {A : Type 0} (P : A → Type 0) (f : ℕ → A) (from n : ℕ) → ((k : ℕ) → from ≤ k → k < from + n → P (f k)) → Each P (values_from f from n)
values_each P f from zero h = tt
values_each P f from (suc n) h = (h from (omega arith) (omega arith), values_each P f (suc from) n (λ k a b. h k (omega (arith, a)) (omega (arith, b))))

values_at : {A : Type 0} (f : ℕ → A) (d : A) (from n i : ℕ) → i < n → get_or (values_from f from n) i d ≡ f (from + i)
values_at f d from zero i lt = absurd (omega arith)
values_at f d from (suc n) zero lt = ap f (let e : from ≡ from + 0 = omega arith in e)
values_at f d from (suc n) (suc i) lt = values_at f d (suc from) n i (omega arith) ∙ ap f (let e : suc from + i ≡ from + suc i = omega arith in e)

values_beyond : {A : Type 0} (f : ℕ → A) (d : A) (from n i : ℕ) → n ≤ i → get_or (values_from f from n) i d ≡ d
values_beyond f d from zero i le = refl
values_beyond f d from (suc n) zero le = absurd (omega arith)
values_beyond f d from (suc n) (suc i) le = values_beyond f d (suc from) n i (omega arith)

values_set : {A : Type 0} (f h : ℕ → A) (v : A) (from n i : ℕ) → i < n → h (from + i) ≡ v → ((k : ℕ) → k ≢ from + i → h k ≡ f k) → values_from h from n ≡ set (values_from f from n) i v
values_set f h v from zero i lt here others = absurd (omega arith)
values_set {A} f h v from (suc n) zero lt here others = grind (arith, values_same)
values_set {A} f h v from (suc n) (suc i) lt here others = grind (arith, values_set f h v (suc from) n i)

-- ---- journals

module _ (n : ℕ) (f : ℕ → ReplicaKept) where
  pub journals_length : length (journals n f) ≡ n
  journals_length = values_length (λ k. (f k).notes) 0 n

  pub journal_of : (r : ℕ) → r < n → get_or (journals n f) r [] ≡ (f r).notes
  journal_of r lt = values_at (λ k. (f k).notes) [] 0 n r lt ∙ ap (λ k. (f k).notes) (let e : 0 + r ≡ r = omega arith in e)

  pub journal_beyond : (r : ℕ) → n ≤ r → get_or (journals n f) r [] ≡ []
  journal_beyond r le = values_beyond (λ k. (f k).notes) [] 0 n r le

  -- replica r has written a note
  pub journals_noted : (h : ℕ → ReplicaKept) (r : ℕ) (x : BallotNote) → r < n → (h r).notes ≡ (f r).notes ++ x ∷ [] → ((k : ℕ) → k ≢ r → (h k).notes ≡ (f k).notes) → journals n h ≡ noted (journals n f) r x
  journals_noted h r x lt here others = grind (arith, values_set, journal_of)

-- ---- votes and notes

-- an acceptance stands in a note
pub accepted_note : (at : Place) (notes : List BallotNote) (b : Ballot) (v : Batch) → HasAccepted (votes_at at notes) b v → Mem (Accepted at b v) notes
accepted_note at [] b v h = h
accepted_note at (x ∷ notes) b v h = grind (arith, accepted_note at notes b v)

module _ (n : ℕ) (f : ℕ → ReplicaKept) (at : Place) (r : ℕ) where
  -- in a journal of the replicas
  pub within : (x : Vote Batch) → Has (votes (journals n f) at r) x → r < n
  within x h = ⊎_elim (λ lt. lt) (λ le. absurd (subst (λ (ns : List BallotNote). Has (votes_at at ns) x) (values_beyond (λ k. (f k).notes) [] 0 n r le) h)) (Rattle.std.proofs.lemmas.Bool.cases_lt r n)

  pub votes_of : r < n → votes (journals n f) at r ≡ votes_at at (f r).notes
  votes_of lt = ap (votes_at at) (journal_of n f r lt)

  pub accepted_stands : (b : Ballot) (v : Batch) → HasAccepted (votes (journals n f) at r) b v → (r < n) × Mem (Accepted at b v) (f r).notes
  accepted_stands b v h = let lt = within (acceptance b v) h in (lt, accepted_note at (f r).notes b v (subst (λ (xs : List (Vote Batch)). Has xs (acceptance b v)) (votes_of lt) h))

-- ---- what is decided

pub exact : IsExact same_batch
exact = record { true_only = same_batch-true; itself = same_batch-refl }

-- a decided value was accepted
pub decided_accepted : (js : List (List BallotNote)) → JournalsAgree js → (shard slot : ℕ) (v : Batch) → slice_get (decided js shard) slot ≡ Some v → (r : ℕ) × (b : Ballot) × HasAccepted (votes js (record { shard = shard; slot = slot }) r) b v
decided_accepted js agree shard slot v e =
    let c = (decided_is same_batch exact js (agreed_one js agree) shard).each slot v e in
    let m = some_member c.1 in
    (m.0, c.0, m.1)
