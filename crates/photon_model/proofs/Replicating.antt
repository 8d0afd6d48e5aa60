-- Each row of a replica keeps its facts, but for those on ballots.
use Rattle.std.proofs.Common.{ℕ, cond, List, [], ◌∷◌, Some, None, arith}
use Rattle.std.specs.Prelude.{Option, ⊤}
use Rattle.std.proofs.lemmas.Bool.{cond_both}
use Rattle.photon_model.proofs.Words.{Ballot, cell_after, is_below, is_same, Place, Vote, promise, votes_at, VotesCell as Cell, blank, cell_from, Prepared, Taken, prepare_under, on_prepare, on_accept, Grant, Refuse, Batch, same_batch, Each, Setting, BallotNote, idle, Packet, Prepare, Accept, Node, Input, Deliver, ReplicaKept, cell_at, note_at, says, prepared, taken, replica_gets, replica_turn, each_append, Known, InsertsOf, HoldsOfBatch, HoldsOfBest, HoldsOf, HoldsOfInput, ReplicaKeeps}

module _ (g : Setting) (n : Known) where
  -- what a vote accepts holds
  abbrev OfValue : ℕ → Option Batch → Type 0
  OfValue s None = ⊤
  OfValue s (Some v) = HoldsOfBatch g n s v

  abbrev OfVote : ℕ → Vote Batch → Type 0
  OfVote s x = OfValue s x.value

  abbrev IfVote : ℕ → Option (Vote Batch) → Type 0
  IfVote s None = ⊤
  IfVote s (Some x) = OfVote s x

  votes_hold : (at : Place) (xs : List BallotNote) → Each (InsertsOf g n) xs → Each (OfVote at.shard) (votes_at at xs)
  votes_hold at [] i = tt
  votes_hold at (x ∷ xs) i = grind (arith, votes_hold at xs i.1)

  cell_holds : (s : ℕ) (c : Cell Batch) (xs : List (Vote Batch)) → HoldsOfBest g n s c.accepted → Each (OfVote s) xs → HoldsOfBest g n s (cell_from c xs).accepted
  cell_holds s c [] h i = h
  cell_holds s c (x ∷ xs) h i = grind (arith, cell_holds s (cell_after c x) xs) steps 1000000

  abbrev OfPrepared : ℕ → Prepared Batch → Type 0
  OfPrepared s (Grant prior) = HoldsOfBest g n s prior
  OfPrepared s (Refuse p) = ⊤

  prepare_turn : (s : ℕ) (c : Cell Batch) (b : Ballot) → HoldsOfBest g n s c.accepted → IfVote s (on_prepare c b).0 × OfPrepared s (on_prepare c b).1
  prepare_turn s c b h = go c.promised
    where
      go : (o : Option Ballot) → IfVote s (prepare_under c b o).0 × OfPrepared s (prepare_under c b o).1
      go None = (tt, h)
      go (Some p) =
          cond_both (is_below b p) (None, Refuse p) (cond (is_same p b) (None, Grant c.accepted) (Some (promise b), Grant c.accepted)) (λ (t : Option (Vote Batch) × Prepared Batch). IfVote s t.0 × OfPrepared s t.1) (λ _. (tt, tt))
          (λ _. cond_both (is_same p b) (None, Grant c.accepted) (Some (promise b), Grant c.accepted) (λ (t : Option (Vote Batch) × Prepared Batch). IfVote s t.0 × OfPrepared s t.1) (λ _. (tt, h)) (λ _. (tt, h)))

  accept_turn : (s : ℕ) (c : Cell Batch) (b : Ballot) (v : Batch) → HoldsOfBatch g n s v → IfVote s (on_accept same_batch c b v).0
  accept_turn s c b v h = grind arith

  prepared_holds : (at : Place) (b : Ballot) (a : Prepared Batch) → OfPrepared at.shard a → HoldsOf g n (prepared at b a)
  prepared_holds at b a h = grind arith

  taken_holds : (at : Place) (b : Ballot) (a : Taken) → HoldsOf g n (taken at b a)
  taken_holds at b a = grind arith

  module _ (k : ReplicaKept) (sound : Each (InsertsOf g n) k.notes) where
    -- a packet is sent and perhaps a note is made
    says_keeps : (to : Node) (p : Packet) (at : Place) (o : Option (Vote Batch)) → HoldsOf g n p → IfVote at.shard o → ReplicaKeeps g n k (says to p (note_at at o))
    says_keeps to p at o h i = grind (arith, each_append)

    idles : ReplicaKeeps g n k (idle tt)
    idles = record { kept = sound; packets = tt }

    gets_keeps : (from : Node) (p : Packet) → HoldsOf g n p → ReplicaKeeps g n k (replica_gets k from p)
    gets_keeps from (Prepare at b) h =
        let t = on_prepare (cell_at k at) b in
        let i = prepare_turn at.shard (cell_at k at) b (cell_holds at.shard blank (votes_at at k.notes) tt (votes_hold at k.notes sound)) in
        says_keeps from (prepared at b t.1) at t.0 (prepared_holds at b t.1 i.1) i.0
    gets_keeps from (Accept at b v) h = search (says_keeps, taken_holds, accept_turn)
    gets_keeps from _ h = idles

pub replica_keeps : (g : Setting) (n : Known) (k : ReplicaKept) (i : Input) → Each (InsertsOf g n) k.notes → HoldsOfInput g n i → ReplicaKeeps g n k (replica_turn k i)
replica_keeps g n k (Deliver from p) s h = gets_keeps g n k s from p h
replica_keeps g n k _ s h = idles g n k s
