-- What the records of all disks say of an id, and which records are sound.
use Rattle.std.specs.Prelude.{◌≡◌, ◌≢◌, ◌⊎◌, ℕ, ◌<◌, ◌≤◌, true, List, [], ◌∷◌, Some, None, ⊤, ◌++◌}
use Rattle.photon_model.specs.Terms.{Accepted, BallotNote, Batch, ClickLine, DispatcherKept, Distinct, Each, EachPair, EventId, Expired, Insert, IsBoundary, IsGranted, IsJoin, IsJoinable, IsJoiner, JoinerKept, Mem, PairRec, Promised, Registered, Setting, at, end_from, first, has, shard}
use Rattle.photon_model.specs.Journals.{journals, decided}
use Rattle.photon_model.specs.Agreement.{ReplicasSound}
use Rattle.photon_model.specs.Runs.{Disks}

-- What only grows: the decided values of each shard, the pairs of each joiner, the inserts that were drawn.
-- Facts on packets and volatile state speak of this alone.
pub record Known : Type 0 where
  pub values : ℕ → List Batch
  pub pairs : ℕ → List PairRec
  pub drawn : List Insert

module _ (g : Setting) where
  -- the query of the click at p is not in the log
  abbrev pub HasNoQuery : ℕ → Type 0
  HasNoQuery p = (l : ClickLine) × (at g.clicks p ≡ Some l) × (first g.queries l.click.query ≡ None)

  abbrev pub IsLineStart : ℕ → Type 0
  IsLineStart p = (l : ClickLine) × (at g.clicks p ≡ Some l)

  -- a dispatcher has drained
  pub record IsDrained (k : DispatcherKept) : Type 0 where
    pub at_end : k.offset ≡ end_from 0 g.clicks
    pub no_query : (p : ℕ) → has k.pending p ≡ true → HasNoQuery p

module _ (g : Setting) (n : Known) where
  abbrev pub values_of : EventId → List Batch
  values_of i = n.values (shard g i)

  abbrev pub IsWritten : EventId → Type 0
  IsWritten i = (j : ℕ) × (p : PairRec) × IsJoiner g j × Mem p (n.pairs j) × (p.click.id ≡ i)

  abbrev pub IsSettled : EventId → Type 0
  IsSettled i = (Registered (values_of i) i ⊎ Expired (values_of i) i) ⊎ IsWritten i

  abbrev pub IsMissing : EventId → Type 0
  IsMissing i = Registered (values_of i) i × (IsWritten i → ⊥)

  -- a dispatcher's disks: it passes only what is pending or settled
  pub record DispatcherSound (k : DispatcherKept) : Type 0 where
    pub boundary : IsBoundary g.clicks k.offset
    pub starts : (p : ℕ) → has k.pending p ≡ true → IsLineStart g p
    pub once : Distinct k.pending
    pub passed : (l : ClickLine) → Mem l g.clicks → l.place < k.offset → (has k.pending l.place ≡ true) ⊎ IsSettled l.click.id

  -- a pair in the output log of joiner j, whose kept epoch is given
  pub record PairSound (j kept : ℕ) (p : PairRec) : Type 0 where
    pub own_query : IsJoin g p.click p.query
    pub joiner : p.token.joiner ≡ j
    pub epoch : p.token.epoch ≤ kept
    pub granted : IsGranted (values_of p.click.id) p.click.id p.token
    pub drawn : Mem (record { id = p.click.id; token = p.token }) n.drawn

  pub record JoinerSound (j : ℕ) (k : JoinerKept) : Type 0 where
    pub pairs : Each (PairSound j k.epoch) k.pairs
    pub once : EachPair (λ (a b : PairRec). a.token ≢ b.token) k.pairs

  -- an insert that may stand in a record of this shard
  abbrev pub IsInsertOf : ℕ → Insert → Type 0
  IsInsertOf s x = (shard g x.id ≡ s) × Mem x n.drawn

  -- what was drawn: each for a click with a query, by a joiner in an epoch that it has kept, a token for one id
  pub record DrawnSound (epochs : ℕ → ℕ) : Type 0 where
    pub joinable : (x : Insert) → Mem x n.drawn → IsJoinable g x.id
    pub joiner : (x : Insert) → Mem x n.drawn → IsJoiner g x.token.joiner
    pub epoch : (x : Insert) → Mem x n.drawn → x.token.epoch ≤ epochs x.token.joiner
    pub one_id : (x y : Insert) → Mem x n.drawn → Mem y n.drawn → x.token ≡ y.token → x.id ≡ y.id

  -- each insert in an Accepted record is of its shard and was drawn
  abbrev pub InsertsOf : BallotNote → Type 0
  InsertsOf (Accepted p b v) = Each (IsInsertOf p.shard) v.inserts
  InsertsOf (Promised p b) = ⊤

-- what the disks say, the inserts that were drawn being given
abbrev pub known_of : Setting → Disks → List Insert → Known
known_of g d drawn = record { values = decided (journals g.config.replicas d.replicas); pairs = λ j. (d.joiners j).pairs; drawn = drawn }

-- The records of all disks are sound.
pub record Sound (g : Setting) (d : Disks) (drawn : List Insert) : Type 0 where
  pub replicas : ReplicasSound (journals g.config.replicas d.replicas) (λ s. (d.servers s).epoch)
  pub joiners : (j : ℕ) → IsJoiner g j → JoinerSound g (known_of g d drawn) j (d.joiners j)
  pub dispatchers : (s : ℕ) → s < 2 → DispatcherSound g (known_of g d drawn) (d.dispatchers s)
  pub drawing : DrawnSound g (known_of g d drawn) (λ j. (d.joiners j).epoch)
  pub inserts : (r : ℕ) → r < g.config.replicas → Each (InsertsOf g (known_of g d drawn)) (d.replicas r).notes

-- the inserts of all accepted records
abbrev pub inserts_in : List BallotNote → List Insert
inserts_in [] = []
inserts_in (Accepted p b v ∷ ns) = v.inserts ++ inserts_in ns
inserts_in (Promised p b ∷ ns) = inserts_in ns

abbrev pub inserts_of : List (List BallotNote) → List Insert
inserts_of [] = []
inserts_of (ns ∷ js) = inserts_in ns ++ inserts_of js

abbrev pub accepted_inserts : Setting → Disks → List Insert
accepted_inserts g d = inserts_of (journals g.config.replicas d.replicas)

-- The records of all disks are sound, what was drawn being the inserts of their own accepted records.
abbrev pub SoundStore : Setting → Disks → Type 0
SoundStore g d = Sound g d (accepted_inserts g d)
