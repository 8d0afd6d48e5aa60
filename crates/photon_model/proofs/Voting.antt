-- Each row of a replica keeps the facts on ballots, and these facts last where more is written or sent.
use Rattle.std.proofs.Common.{◌≡◌, ◌≢◌, ⊎_elim, ℕ, ◌<◌, ◌≤◌, Bool, List, [], ◌∷◌, ◌++◌, length, get_or, Some, None, refl, sym, ap, ◌∙◌, subst, arith}
use Rattle.std.specs.Prelude.{Option, ⊤}
use Rattle.photon_model.proofs.Words.{Ballot, Place, note_of, Vote, acceptance, vote_at, votes_at, votes_in, Has, cell_of, HasAccepted, Prepared, Taken, on_prepare, on_accept, Grant, Refuse, Take, Decline, Phase, Promising, Accepting, Ended, IsOffer, IsUnheard, Writes, has_last, noted, has_split, vote_here, votes_noted, votes_others, Suits, vote_suits, note_writes, note_agrees, grant_written, refusal_written, offer_written, answer_written, asking_written, offering_written, asking_sent, offering_sent, Batch, same_batch, Mem, Each, Packet, Prepare, Promise, Nack, Accept, Accepted, Node, Server, Replica, To, BallotNote, Note, Voted, Out, idle, ServerLive, Proposal, ReplicaKept, cell_at, note_at, prepared, taken, replica_gets, mem_right, mem_split, IsOwned, Offer, offer, Votes, Offered, PromisedBy, AcceptedBy, NackedBy, VotesOf, VotesOfPhase, VotesOfProposal, next_place, VotesOfServer, VotesAgree}
use Rattle.paxos_defs.proofs.Cells.{Knows, cell_knows}
use Rattle.paxos_defs.proofs.Turns.{after, PreparedHolds, IsPromiseVote, prepare_holds, TakenHolds, IsAcceptanceVote, accept_holds}

-- ---- what a row is to keep

-- the journals with what a replica writes
abbrev pub with_note : Votes → ℕ → Option Note → Votes
with_note n r (Some (Voted x)) = record { journals = noted n.journals r x; offered = n.offered; epochs = n.epochs }
with_note n r _ = n

-- a note of replica r that may be written
abbrev pub MayWrite : Votes → ℕ → BallotNote → Type 0
MayWrite n r x = ((q : Place) → Suits (Offered n) n.journals r x q) × ((q : Place) (y : Vote _) → Has (vote_at q x) y → IsOwned n.epochs y.ballot)

abbrev pub MayNote : Votes → ℕ → Option Note → Type 0
MayNote n r None = ⊤
MayNote n r (Some (Voted x)) = MayWrite n r x
MayNote n r _ = ⊥

pub record ReplicaVotes (n : Votes) (r : ℕ) (o : Out (Unit {0})) : Type 0 where
  pub note : MayNote n r o.note
  pub packets : Each (λ (a : To × Packet). VotesOf (with_note n r o.note) (Replica r) a.1) o.packets

abbrev pub offering : Votes → List Offer → Votes
offering n new = record { journals = n.journals; offered = new ++ n.offered; epochs = n.epochs }

pub record ServerVotes (n : Votes) (site epoch : ℕ) (o : Out ServerLive) : Type 0 where
  pub new : List Offer
  pub values : (x : Offer) → Mem x new → (t : ℕ) × (p : Proposal) × (marks : List Bool) × ((o.live.shards t).proposal ≡ Some p) × (p.phase ≡ Accepting x.value marks)
  pub unheard : (x : Offer) → Mem x new → IsUnheard n.journals (Offered n) x.place x.ballot
  pub sites : Each (λ (x : Offer). x.ballot.site ≡ site) new
  pub agree : VotesAgree (offering n new)
  pub server : VotesOfServer (offering n new) site epoch o.live
  pub packets : Each (λ (a : To × Packet). VotesOf (offering n new) (Server site) a.1) o.packets

-- ---- facts last where a note is written

module _ (n : Votes) (js : List (List BallotNote)) (writes : (at : Place) → Writes (Offered n) n.journals js at) where
  abbrev pub written : Votes
  written = record { journals = js; offered = n.offered; epochs = n.epochs }

  promised_written : (from : Node) (at : Place) (b : Ballot) (o : Option (Ballot × Batch)) → PromisedBy n from at b o → PromisedBy written from at b o
  promised_written (Replica r) at b o h = grant_written (writes at) r b o h
  promised_written _ at b o h = h

  accepted_written : (from : Node) (at : Place) (b : Ballot) → AcceptedBy n from at b → AcceptedBy written from at b
  accepted_written (Replica r) at b h = answer_written (writes at) r b h
  accepted_written _ at b h = h

  nacked_written : (from : Node) (at : Place) (b c : Ballot) → NackedBy n from at b c → NackedBy written from at b c
  nacked_written (Replica r) at b c h = refusal_written (writes at) r b c h
  nacked_written _ at b c h = h

  pub votes_written : (from : Node) (p : Packet) → VotesOf n from p → VotesOf written from p
  votes_written from p h = grind (arith, promised_written, accepted_written, nacked_written)

  phase_written : (at : Place) (b : Ballot) (phase : Phase Batch) → VotesOfPhase n at b phase → VotesOfPhase written at b phase
  phase_written at b (Promising marks best) h = asking_written (writes at) b marks best h
  phase_written at b (Accepting v marks) h = offering_written (writes at) b v marks h
  phase_written at b Ended h = h

  pub server_written : (site epoch : ℕ) (l : ServerLive) → VotesOfServer n site epoch l → VotesOfServer written site epoch l
  server_written site epoch l h = grind (arith, phase_written)

-- ---- and where values are sent

module _ (n : Votes) (new : List Offer) (epochs : ℕ → ℕ) (up : (s : ℕ) → n.epochs s ≤ epochs s) where
  abbrev pub sent : Votes
  sent = record { journals = n.journals; offered = new ++ n.offered; epochs = epochs }

  pub owned_sent : (b : Ballot) → IsOwned n.epochs b → IsOwned epochs b
  owned_sent b h = (h.0, let p = h.1 in let q = up b.site in omega arith)

  accepted_sent : (from : Node) (at : Place) (b : Ballot) → AcceptedBy n from at b → AcceptedBy sent from at b
  accepted_sent from at b h = grind (arith, mem_right)

  pub votes_sent : (from : Node) (p : Packet) → VotesOf n from p → VotesOf sent from p
  votes_sent from (Prepare at b) h = owned_sent b h
  votes_sent from (Promise at b o) h = grind arith
  votes_sent from (Accept at b v) h = mem_right (offer at b v) new n.offered h
  votes_sent from (Accepted at b) h = accepted_sent from at b h
  votes_sent from (Nack at b c) h = grind arith
  votes_sent from _ h = h

  -- none of the new values has this place and ballot
  abbrev pub AreElsewhere : Place → Ballot → Type 0
  AreElsewhere at b = (x : Offer) → Mem x new → x.place ≡ at → x.ballot ≡ b → ⊥

  phase_sent : (at : Place) (b : Ballot) (phase : Phase Batch) → AreElsewhere at b → VotesOfPhase n at b phase → VotesOfPhase sent at b phase
  phase_sent at b (Promising marks best) apart h = asking_sent n.journals at b marks best (λ w m. ⊎_elim (λ q. absurd (apart (offer at b w) q refl refl)) (λ q. q) (mem_split (offer at b w) new n.offered m)) h
  phase_sent at b (Accepting v marks) apart h = offering_sent n.journals at b v marks (mem_right (offer at b v) new n.offered) h
  phase_sent at b Ended apart h = h

  pub proposal_sent : (site epoch round now : ℕ) (at : Place) (o : Option Proposal) → round ≤ now → ((p : Proposal) → o ≡ Some p → AreElsewhere at p.ballot) → VotesOfProposal n site epoch round at o → VotesOfProposal sent site epoch now at o
  proposal_sent site epoch round now at o le apart h = grind (arith, phase_sent)

  -- a server's facts last where all new values are of another site
  pub server_sent : (site epoch : ℕ) (l : ServerLive) → ((x : Offer) → Mem x new → x.ballot.site ≢ site) → VotesOfServer n site epoch l → VotesOfServer sent site epoch l
  server_sent site epoch l apart h =
      record {
        rounds = λ x m s e. ⊎_elim (λ k. absurd (apart x k s)) (λ k. h.rounds x k s e) (mem_split x new n.offered m);
        shards = λ s. one s (l.shards s).proposal (h.shards s);
      }
    where
      one : (s : ℕ) (o : Option Proposal) → VotesOfProposal n site epoch l.round (next_place n s (l.shards s)) o → VotesOfProposal sent site epoch l.round (next_place n s (l.shards s)) o
      one s o k = grind (arith, proposal_sent)

-- ---- a replica's rows

-- the note of a vote has that vote alone
vote_is : (q at : Place) (x y : Vote Batch) → Has (vote_at q (note_of at x)) y → y ≡ x
vote_is q at x y = grind arith

module _ (n : Votes) (agree : VotesAgree n) (r : ℕ) (within : r < length n.journals) where
  abbrev votes_here : Place → List (Vote Batch)
  votes_here at = votes_in n.journals at r

  -- its votes after one of these
  now_here : (at : Place) (x : Vote Batch) → votes_in (noted n.journals r (note_of at x)) at r ≡ votes_here at ++ x ∷ []
  now_here at x = votes_noted n.journals r (note_of at x) at within ∙ ap (λ (ys : List (Vote Batch)). votes_here at ++ ys) (vote_here at x)

  prepare_votes : (at : Place) (b : Ballot) → IsOwned n.epochs b → (o : Option (Vote Batch)) (a : Prepared Batch) → IsPromiseVote (votes_here at) b o → PreparedHolds (after (votes_here at) o) b a → MayNote n r (note_at at o) × VotesOf (with_note n r (note_at at o)) (Replica r) (prepared at b a)
  prepare_votes at b own None (Grant prior) v h = (tt, h)
  prepare_votes at b own None (Refuse p) v h = (tt, h)
  prepare_votes at b own (Some x) a v h = (
    (
      vote_suits (Offered n) n.journals r at x v.0 (λ c w e. absurd (differ w (ap (λ (z : Vote Batch). z.value) (e ∙ v.1)))),
      λ q y k. subst (λ (z : Vote Batch). IsOwned n.epochs z.ballot) (sym (vote_is q at x y k ∙ v.1)) own,
    ),
    holds a (subst (λ (ys : List (Vote Batch)). PreparedHolds ys b a) (sym (now_here at x)) h),
  )
    where
      differ : (w : Batch) → Some w ≡ None → ⊥
      differ w e = cc

      holds : (a : Prepared Batch) → PreparedHolds (votes_in (noted n.journals r (note_of at x)) at r) b a → VotesOf (with_note n r (note_at at (Some x))) (Replica r) (prepared at b a)
      holds a h = grind arith

  accept_votes : (at : Place) (b : Ballot) (v : Batch) → Offered n at b v → (o : Option (Vote Batch)) (a : Taken) → IsAcceptanceVote (votes_here at) b v o → TakenHolds (after (votes_here at) o) b a → MayNote n r (note_at at o) × VotesOf (with_note n r (note_at at o)) (Replica r) (taken at b a)
  accept_votes at b v offered None Take k h = (tt, (h.0, agree.took at r b h.0 h.1, h.1))
  accept_votes at b v offered None (Decline p) k h = (tt, h)
  accept_votes at b v offered (Some x) a k h = (
    (
      vote_suits (Offered n) n.journals r at x k.0 (λ c w e. same c w (e ∙ k.1)),
      λ q y i. subst (λ (z : Vote Batch). IsOwned n.epochs z.ballot) (sym (vote_is q at x y i ∙ k.1)) (agree.owned_offers (offer at b v) offered),
    ),
    holds a (subst (λ (ys : List (Vote Batch)). TakenHolds ys b a) (sym (now_here at x)) h),
  )
    where
      same : (c : Ballot) (w : Batch) → acceptance c w ≡ acceptance b v → Offered n at c w × IsOffer n.journals (Offered n) at c w
      same c w e =
          let ballots : c ≡ b = ap (λ (z : Vote Batch). z.ballot) e in
          let values : Some w ≡ Some v = ap (λ (z : Vote Batch). z.value) e in
          let value : w ≡ v = cc in
          subst (λ (z : Ballot × Batch). Offered n at z.0 z.1 × IsOffer n.journals (Offered n) at z.0 z.1) (λ i. (sym ballots i, sym value i)) (offered, agree.offers (offer at b v) offered)

      holds : (a : Taken) → TakenHolds (votes_in (noted n.journals r (note_of at x)) at r) b a → VotesOf (with_note n r (note_at at (Some x))) (Replica r) (taken at b a)
      holds Take h = (v, offered, subst (λ (ys : List (Vote Batch)). HasAccepted ys b v) (sym (now_here at x)) (subst (λ (z : Vote Batch). Has (votes_here at ++ x ∷ []) z) k.1 (has_last (votes_here at) x)))
      holds (Decline p) h = h

  module _ (k : ReplicaKept) (own : get_or n.journals r [] ≡ k.notes) where
    knows : (at : Place) → Knows (votes_here at) (cell_at k at)
    knows at = subst (λ (ns : List BallotNote). Knows (votes_here at) (cell_of (votes_at at ns))) own (cell_knows (votes_here at) ((agree.agree at).rising r))

    pub idles : ReplicaVotes n r (idle tt)
    idles = record { note = tt; packets = tt }

    pub gets_votes : (from : Node) (p : Packet) → VotesOf n from p → ReplicaVotes n r (replica_gets k from p)
    gets_votes from (Prepare at b) h =
        let turn = on_prepare (cell_at k at) b in
        let holds = prepare_holds (votes_here at) (cell_at k at) b (knows at) in
        let both = prepare_votes at b h turn.0 turn.1 holds.0 holds.1 in
        record { note = both.0; packets = (both.1, tt) }
    gets_votes from (Accept at b v) h =
        let turn = on_accept same_batch (cell_at k at) b v in
        let holds = accept_holds same_batch (votes_here at) (cell_at k at) b v (knows at) in
        let both = accept_votes at b v h turn.0 turn.1 holds.0 holds.1 in
        record { note = both.0; packets = (both.1, tt) }
    gets_votes from _ h = idles

  -- ---- the journals after a note

  module _ (x : BallotNote) (may : MayWrite n r x) where
    pub agree_noted : VotesAgree (with_note n r (Some (Voted x)))
    agree_noted =
        record {
          agree = λ at. note_agrees (Offered n) n.journals r x at within (may.0 at) (agree.agree at);
          offers = λ y m. offer_written (note_writes (Offered n) n.journals r x y.place within (may.0 y.place)) y.ballot y.value (agree.offers y m);
          took = λ at k b v h. ⊎_elim (λ o. agree.took at k b v o) (λ s. s) ((note_writes (Offered n) n.journals r x at within (may.0 at)).came k b v h);
          owned_offers = agree.owned_offers;
          owned_notes = λ at k y h. grind (arith, has_split, votes_noted, votes_others);
        }
