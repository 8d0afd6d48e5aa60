-- A replica's promise at a place rises only to a ballot that it is asked with, and it refuses with its promise.
use Rattle.std.proofs.Common.{◌≡◌, ◌⊎◌, inl, inr, Some, None, refl, ap, arith, Option}
use Rattle.std.proofs.lemmas.Bool.{cond_both}
use Rattle.photon_model.proofs.Words.{Ballot, IsBelow, IsUpTo, is_below, below_true, below_false, Batch, same_batch, Place, Vote, acceptance, VotesCell as Cell, Prepared, Taken, prepare_under, on_prepare, is_accepted, vote_anew, accept_under, on_accept, Grant, Refuse, Take, Decline, cell_noted, Each, land, Packet, Prepare, Nack, Accept, Node, To, Input, Deliver, ReplicaKept, cell_at, note_at, land_replica, replica_turn}

-- the input asks at the place with the ballot
abbrev pub AsksAt : Input → Place → Ballot → Type 0
AsksAt i at b = (from : Node) × ((i ≡ Deliver from (Prepare at b)) ⊎ ((v : Batch) × (i ≡ Deliver from (Accept at b v))))

-- a promise, if any, lies no higher
abbrev pub IsPromiseUpTo : Option Ballot → Ballot → Type 0
IsPromiseUpTo None b = Unit {0}
IsPromiseUpTo (Some p) b = IsUpTo p b

-- a replica after its turn
abbrev pub after_turn : ReplicaKept → Input → ReplicaKept
after_turn k i = land land_replica (replica_turn k i).note k

-- a vote at the ballot, where the promise lies no higher
abbrev IsVote : Option Ballot → Ballot → Option (Vote Batch) → Type 0
IsVote o b None = Unit {0}
IsVote o b (Some x) = (x.ballot ≡ b) × IsPromiseUpTo o b

-- a refusal tells the promise, above the ballot
abbrev IsRefused : Option Ballot → Ballot → Prepared Batch → Type 0
IsRefused o b (Grant prior) = Unit {0}
IsRefused o b (Refuse c) = (o ≡ Some c) × IsBelow b c

abbrev IsDeclined : Option Ballot → Ballot → Taken → Type 0
IsDeclined o b Take = Unit {0}
IsDeclined o b (Decline c) = (o ≡ Some c) × IsBelow b c

prepare_is : (c : Cell Batch) (b : Ballot) (o : Option Ballot) → IsVote o b (prepare_under c b o).0 × IsRefused o b (prepare_under c b o).1
prepare_is c b None = ((refl, tt), tt)
prepare_is c b (Some p) = grind arith

anew : (c : Cell Batch) (b : Ballot) (v : Batch) (o : Option Ballot) → IsPromiseUpTo o b → IsVote o b (vote_anew same_batch c b v).0 × IsDeclined o b (vote_anew same_batch c b v).1
anew c b v o h = cond_both (is_accepted same_batch b v c.accepted) (None, Take) (Some (acceptance b v), Take) (λ (t : Option (Vote Batch) × Taken). IsVote o b t.0 × IsDeclined o b t.1) (λ _. (tt, tt)) (λ _. ((refl, h), tt))

accept_is : (c : Cell Batch) (b : Ballot) (v : Batch) (o : Option Ballot) → IsVote o b (accept_under same_batch c b v o).0 × IsDeclined o b (accept_under same_batch c b v o).1
accept_is c b v None = anew c b v None tt
accept_is c b v (Some p) =
    cond_both (is_below b p) (None, Decline p) (vote_anew same_batch c b v) (λ (t : Option (Vote Batch) × Taken). IsVote (Some p) b t.0 × IsDeclined (Some p) b t.1)
    (λ e. (tt, (refl, below_true b p e))) (λ e. anew c b v (Some p) (below_false b p e))

module _ (k : ReplicaKept) (at : Place) where
  -- the promise after a note of a vote
  abbrev pub Rises : Input → ReplicaKept → Type 0
  Rises i now = ((cell_at now at).promised ≡ (cell_at k at).promised) ⊎ ((b : Ballot) × AsksAt i at b × ((cell_at now at).promised ≡ Some b) × IsPromiseUpTo (cell_at k at).promised b)

  noted : (i : Input) (p : Place) (b : Ballot) → (p ≡ at → AsksAt i at b) → (x : Option (Vote Batch)) → IsVote (cell_at k p).promised b x → Rises i (land land_replica (note_at p x) k)
  noted i p b asks x h = grind (arith, cell_noted)

  prepares : (from : Node) (p : Place) (b : Ballot) → p ≡ at → AsksAt (Deliver from (Prepare p b)) at b
  prepares from p b s = (from, inl (ap (λ q. Deliver from (Prepare q b)) s))

  accepts : (from : Node) (p : Place) (b : Ballot) (v : Batch) → p ≡ at → AsksAt (Deliver from (Accept p b v)) at b
  accepts from p b v s = (from, inr (v, ap (λ q. Deliver from (Accept q b v)) s))

  pub rises : (i : Input) → Rises i (after_turn k i)
  rises (Deliver from (Prepare p b)) = noted (Deliver from (Prepare p b)) p b (prepares from p b) (on_prepare (cell_at k p) b).0 (prepare_is (cell_at k p) b (cell_at k p).promised).0
  rises (Deliver from (Accept p b v)) = noted (Deliver from (Accept p b v)) p b (accepts from p b v) (on_accept same_batch (cell_at k p) b v).0 (accept_is (cell_at k p) b v (cell_at k p).promised).0
  rises _ = inl refl

  -- it asks nothing, and refuses a ballot that it was asked with by its promise, which lies above it
  abbrev pub Says : Input → Packet → Type 0
  Says i (Nack p b c) = p ≡ at → ((cell_at k at).promised ≡ Some c) × IsBelow b c × AsksAt i at b
  Says i (Prepare p b) = ⊥
  Says i (Accept p b v) = ⊥
  Says i _ = Unit {0}

  pub says : (i : Input) → Each (λ (a : To × Packet). Says i a.1) (replica_turn k i).packets
  says (Deliver from (Prepare p b)) = grind (arith, prepares, prepare_is)
  says (Deliver from (Accept p b v)) = grind (arith, accepts, accept_is)
  says _ = tt
