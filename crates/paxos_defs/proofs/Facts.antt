-- How the facts of packets and proposers last, and what follows from them.
use Rattle.std.proofs.Common.{◌≡◌, ◌⊎◌, ℕ, ◌*◌, ◌<◌, List, [], ◌∷◌, ◌++◌, length, get_or, set, Bool, true, false, Option, Some, None, inl, inr, ⊎_elim, refl, sym, ◌∙◌, subst, arith}
use Rattle.std.specs.Prelude.{slice_get}
use Rattle.std.proofs.lemmas.List.{length-set, length-replicate}
use Rattle.std.proofs.lemmas.Bool.{ltb-true}
use Rattle.ballot_core.specs.declared.Ballot.{Ballot}
use Rattle.ballot_core.specs.Majority.{marked}
use Rattle.paxos_defs.specs.declared.Place.{Place}
use Rattle.paxos_defs.specs.Notes.{is_place, Note, note_of, Vote, vote_at, acceptance, votes, Has}
use Rattle.paxos_defs.specs.Agreement.{HasAccepted, IsChosen, IsChosenAt, IsSafe, Agree, JournalsAgree, Rises, OneCasts, Grows, IsPromised, WasAccepted, HasPrior}
use Rattle.paxos_defs.specs.Turns.{higher, value_for}
use Rattle.paxos_defs.specs.Attempts.{nobody, is_most}
use Rattle.list_words.specs.Lists.{Begins}
use Rattle.paxos_defs.specs.Decided.{decided, IsExact}
use Rattle.paxos_defs.proofs.Decided.{decided_is, decided_begin, learn_next}
use Rattle.paxos_defs.specs.Facts.{IsGrant, IsRefusal, IsOffer, IsAnswered, IsUnheard, IsAsking, IsOffering, Writes}
use Rattle.paxos_defs.proofs.Agreement.{has_kept, safe_kept, promised_kept, was_accepted_kept, vote_keeps, same_keeps, chosen_kept, one_came, picked_safe, promised_left, promised_right, higher_accepted, agreed_one}
use Rattle.paxos_defs.proofs.Places.{noted, note_casts_one, note_casts_none, vote_here, vote_elsewhere, place_true}
use Rattle.paxos_defs.proofs.Marks.{marked_set, nobody_marked}

-- Facts last while votes are written.

module _ {V : Type 0} {Offered : Place → Ballot → V → Type 0} {js js' : List (List (Note V))} {p : Place} (writes : Writes Offered js js' p) where
  pub prior_written : (r : ℕ) (prior : Option (Ballot × V)) → HasPrior (votes js p r) prior → HasPrior (votes js' p r) prior
  prior_written r None h = h
  prior_written r (Some a) h = has_kept writes.grows r (acceptance a.0 a.1) h

  pub grant_written : (r : ℕ) (b : Ballot) (prior : Option (Ballot × V)) → IsGrant js r p b prior → IsGrant js' r p b prior
  grant_written r b prior h = (promised_kept writes.grows r b prior h.0, prior_written r prior h.1)

  pub refusal_written : (r : ℕ) (b promised : Ballot) → IsRefusal js r p b promised → IsRefusal js' r p b promised
  refusal_written r b promised h = record { vote = h.vote; cast = has_kept writes.grows r h.vote h.cast; at = h.at; above = h.above }

  pub offer_written : (b : Ballot) (v : V) → IsOffer js Offered p b v → IsOffer js' Offered p b v
  offer_written b v h = grind (arith, safe_kept)

  pub answer_written : (r : ℕ) (b : Ballot) → IsAnswered js Offered r p b → IsAnswered js' Offered r p b
  answer_written r b h = (h.0, h.1, has_kept writes.grows r (acceptance b h.0) h.2)

  pub unheard_written : (b : Ballot) → IsUnheard js Offered p b → IsUnheard js' Offered p b
  unheard_written b h = grind arith

  pub asking_written : (b : Ballot) (marks : List Bool) (best : Option (Ballot × V)) → IsAsking js Offered p b marks best → IsAsking js' Offered p b marks best
  asking_written b marks best h =
      record {
        members = h.members ∙ sym writes.members;
        unheard = unheard_written b h.unheard;
        prior = was_accepted_kept writes.grows best h.prior;
        each = λ r m. promised_kept writes.grows r b best (h.each r m);
      }

  pub offering_written : (b : Ballot) (v : V) (marks : List Bool) → IsOffering js Offered p b v marks → IsOffering js' Offered p b v marks
  offering_written b v marks h = record { members = h.members ∙ sym writes.members; offered = h.offered; each = λ r m. has_kept writes.grows r (acceptance b v) (h.each r m) }

  pub chosen_written : (v : V) → IsChosen js p v → IsChosen js' p v
  chosen_written v h = (h.0, subst (λ (n : ℕ). IsChosenAt n (votes js' p) h.0 v) (sym writes.members) (chosen_kept writes.grows h.0 v h.1))

-- Facts last while values are sent.

module _ {V : Type 0} (js : List (List (Note V))) {Offered Offered' : Place → Ballot → V → Type 0} (p : Place) (b : Ballot) where
  -- no second value is sent at an offer's ballot
  pub offer_sent : (v : V) → ((w : V) → Offered' p b w → Offered p b w ⊎ (w ≡ v)) → IsOffer js Offered p b v → IsOffer js Offered' p b v
  offer_sent v back h = record { safe = h.safe; only = h.only; one = λ w s. ⊎_elim (λ (o : Offered p b w). h.one w o) (λ (e : w ≡ v). e) (back w s) }

  pub unheard_sent : ((w : V) → Offered' p b w → Offered p b w) → IsUnheard js Offered p b → IsUnheard js Offered' p b
  unheard_sent back h = record { not_offered = λ w s. h.not_offered w (back w s); not_accepted = h.not_accepted }

  pub asking_sent : (marks : List Bool) (best : Option (Ballot × V)) → ((w : V) → Offered' p b w → Offered p b w) → IsAsking js Offered p b marks best → IsAsking js Offered' p b marks best
  asking_sent marks best back h = record { members = h.members; unheard = unheard_sent back h.unheard; prior = h.prior; each = h.each }

  pub offering_sent : (v : V) (marks : List Bool) → (Offered p b v → Offered' p b v) → IsOffering js Offered p b v marks → IsOffering js Offered' p b v marks
  offering_sent v marks kept h = record { members = h.members; offered = kept h.offered; each = h.each }

  -- a safe value is an offer where nothing was heard of its ballot
  pub first_offer : (v : V) → ((w : V) → Offered' p b w → Offered p b w ⊎ (w ≡ v)) → IsUnheard js Offered p b → IsSafe (length js) (votes js p) b v → IsOffer js Offered' p b v
  first_offer v back unheard safe = grind arith

-- Journals that agree still do after a note.

-- what a note does at a place: nothing, or it casts a vote, and what that accepts is an offer
abbrev pub Suits : {V : Type 0} → (Place → Ballot → V → Type 0) → List (List (Note V)) → ℕ → Note V → Place → Type 0
Suits {V} Offered js r note q =
    (vote_at q note ≡ []) ⊎ ((x : Vote V) × (vote_at q note ≡ x ∷ []) × Rises (votes js q r) x × ((b : Ballot) (v : V) → acceptance b v ≡ x → Offered q b v × IsOffer js Offered q b v))

module _ {V : Type 0} (Offered : Place → Ballot → V → Type 0) (js : List (List (Note V))) (r : ℕ) (note : Note V) (q : Place) (within : r < length js) (suits : Suits Offered js r note q) where
  members : length (noted js r note) ≡ length js
  members = length-set js r (get_or js r [] ++ note ∷ [])

  -- the votes at the place stay, or get one more
  abbrev Turn : Type 0
  Turn =
      ((k : ℕ) → votes (noted js r note) q k ≡ votes js q k)
      ⊎ ((x : Vote V) × OneCasts (votes js q) (votes (noted js r note) q) r x × ((b : Ballot) (v : V) → acceptance b v ≡ x → Offered q b v × IsOffer js Offered q b v))

  turn : Turn
  turn =
      ⊎_elim
      (λ (e : vote_at q note ≡ []). inl (note_casts_none js r note q within e))
      (λ (s : (x : Vote V) × (vote_at q note ≡ x ∷ []) × Rises (votes js q r) x × ((b : Ballot) (v : V) → acceptance b v ≡ x → Offered q b v × IsOffer js Offered q b v)). inr (s.0, note_casts_one js r note q s.0 within s.1 s.2, s.3))
      suits

  pub note_writes : Writes Offered js (noted js r note) q
  note_writes = record { members = members; grows = grows turn; came = λ k b v. came k b v turn }
    where
      grows : Turn → Grows (votes js q) (votes (noted js r note) q)
      grows h = grind arith

      came : (k : ℕ) (b : Ballot) (v : V) → Turn → HasAccepted (votes (noted js r note) q k) b v → HasAccepted (votes js q k) b v ⊎ Offered q b v
      came k b v (inl same) a = inl (subst (λ (ys : List (Vote V)). Has ys (acceptance b v)) (same k) a)
      came k b v (inr one) a = ⊎_elim (λ (o : HasAccepted (votes js q k) b v). inl o) (λ (n : acceptance b v ≡ one.0). inr (one.2 b v n).0) (one_came one.1 k (acceptance b v) a)

  pub note_agrees : Agree (length js) (votes js q) → Agree (length (noted js r note)) (votes (noted js r note) q)
  note_agrees agree = subst (λ (n : ℕ). Agree n (votes (noted js r note) q)) (sym members) (at turn)
    where
      at : Turn → Agree (length js) (votes (noted js r note) q)
      at (inl same) = same_keeps agree same
      at (inr one) = vote_keeps agree one.1 (λ b v e. let offer = (one.2 b v e).1 in (offer.safe, offer.only))

-- the note of one vote does nothing elsewhere
pub vote_suits : {V : Type 0} (Offered : Place → Ballot → V → Type 0) (js : List (List (Note V))) (r : ℕ) (p : Place) (x : Vote V) → Rises (votes js p r) x → ((b : Ballot) (v : V) → acceptance b v ≡ x → Offered p b v × IsOffer js Offered p b v) → (q : Place) → Suits Offered js r (note_of p x) q
vote_suits {V} Offered js r p x rises offers q = go (is_place p q) refl
  where
    go : (t : Bool) → is_place p q ≡ t → Suits Offered js r (note_of p x) q
    go false e = inl (vote_elsewhere p q x e)
    go true e = subst (λ (z : Place). Suits Offered js r (note_of p x) z) (place_true p q e) (inr (x, vote_here p x, rises, offers))

-- Answers are counted.

was_prior : {V : Type 0} (js : List (List (Note V))) (p : Place) (r : ℕ) (prior : Option (Ballot × V)) → HasPrior (votes js p r) prior → WasAccepted (votes js p) prior
was_prior js p r prior h = grind arith

module _ {V : Type 0} {js : List (List (Note V))} {Offered : Place → Ballot → V → Type 0} {p : Place} {b : Ballot} where
  -- at first nobody has answered
  pub asks : IsUnheard js Offered p b → IsAsking js Offered p b (nobody (length js)) None
  asks unheard = record { members = length-replicate (length js) false; unheard = unheard; prior = tt; each = λ r m. absurd (nobody_marked (length js) r m) }

  pub offers : (v : V) → Offered p b v → IsOffering js Offered p b v (nobody (length js))
  offers v offered = record { members = length-replicate (length js) false; offered = offered; each = λ r m. absurd (nobody_marked (length js) r m) }

  -- one promise more
  pub asks_on : (r : ℕ) (prior : Option (Ballot × V)) {marks : List Bool} {best : Option (Ballot × V)} → IsAsking js Offered p b marks best → IsGrant js r p b prior → IsAsking js Offered p b (set marks r true) (higher best prior)
  asks_on r prior {marks} {best} h grant =
      record {
        members = length-set marks r true ∙ h.members;
        unheard = h.unheard;
        prior = higher_accepted (votes js p) best prior h.prior (was_prior js p r prior grant.1);
        each = λ k m. ⊎_elim
            (λ (e : k ≡ r). promised_right (votes js p k) b best prior (subst (λ (j : ℕ). IsPromised (votes js p j) b prior) (sym e) grant.0))
            (λ (old : slice_get marks k ≡ Some true). promised_left (votes js p k) b best prior (h.each k old))
            (marked_set marks r k m);
      }

  -- with a majority of promises the value is safe
  pub asked : (own : V) {marks : List Bool} {best : Option (Ballot × V)} → Agree (length js) (votes js p) → IsAsking js Offered p b marks best → is_most marks ≡ true → IsSafe (length js) (votes js p) b (value_for own best)
  asked own {marks} {best} agree h most =
      picked_safe agree b own best h.prior (record { marks = marks; members = h.members; more = subst (λ (n : ℕ). n < 2 * marked marks) h.members (ltb-true (length marks) (2 * marked marks) most); each = h.each })

  -- one acceptance more
  pub offers_on : (r : ℕ) (v : V) {marks : List Bool} → IsOffer js Offered p b v → IsOffering js Offered p b v marks → IsAnswered js Offered r p b → IsOffering js Offered p b v (set marks r true)
  offers_on r v {marks} offer h answer = grind (arith, length-set, marked_set)

  -- with a majority of acceptances the value is chosen
  pub accepted : (v : V) {marks : List Bool} → IsOffering js Offered p b v marks → is_most marks ≡ true → IsChosen js p v
  accepted v {marks} h most = (b, record { marks = marks; members = h.members; more = subst (λ (n : ℕ). n < 2 * marked marks) h.members (ltb-true (length marks) (2 * marked marks) most); each = h.each })

-- Decided values.

module _ {V : Type 0} (same : V → V → Bool) (exact : IsExact same) where
  -- What is decided begins what is decided after more votes.
  pub decided_begins : (js js' : List (List (Note V))) → JournalsAgree js → JournalsAgree js' → length js' ≡ length js → ((p : Place) → Grows (votes js p) (votes js' p)) → (shard : ℕ) → Begins (decided same js shard) (decided same js' shard)
  decided_begins js js' agree agree' alike grows shard =
      decided_begin js js' shard (decided same js shard) (decided same js' shard) (agreed_one js' agree') (decided_is same exact js (agreed_one js agree) shard) (decided_is same exact js' (agreed_one js' agree') shard)
      (λ p v h. (h.0, subst (λ (n : ℕ). IsChosenAt n (votes js' p) h.0 v) (sym alike) (chosen_kept (grows p) h.0 v h.1)))

  -- So it does after notes whose values were sent.
  pub decided_grows : {Offered : Place → Ballot → V → Type 0} {js js' : List (List (Note V))} → JournalsAgree js → JournalsAgree js' → ((p : Place) → Writes Offered js js' p) → (shard : ℕ) → Begins (decided same js shard) (decided same js' shard)
  decided_grows {Offered} {js} {js'} agree agree' writes shard =
      decided_begins js js' agree agree' (writes (record { shard = shard; slot = 0 })).members (λ p. (writes p).grows) shard

  -- What is chosen in the slot behind a front of the decided values makes it longer.
  pub learns_next : (js : List (List (Note V))) (shard : ℕ) (learned : List V) (v : V) → JournalsAgree js → Begins learned (decided same js shard) → IsChosen js (record { shard = shard; slot = length learned }) v → Begins (learned ++ v ∷ []) (decided same js shard)
  learns_next js shard learned v agree begins chosen = learn_next js shard learned (decided same js shard) v (agreed_one js agree) (decided_is same exact js (agreed_one js agree) shard) begins chosen
