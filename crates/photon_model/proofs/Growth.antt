-- Facts that last where more is known: one lemma for each kind of fact.
use Rattle.std.proofs.Common.{◌≡◌, inl, inr, ⊎_elim, ℕ, ◌≤◌, List, [], ◌∷◌, ◌++◌, Some, refl, sym, ap, ◌∙◌, subst, arith, Option, slice_get}
use Rattle.photon_model.proofs.Words.{EventId, Insert, Batch, ClickLine, Mem, Each, Begins, Answer, Granted, Duplicate, TooOld, Setting, Packet, Joined, Claim, Reply, Promise, Accept, Chosen, Outcome, Written, Already, Late, PairRec, BallotNote, DispatcherKept, DispatcherLive, JoinerKept, JoinerLive, Flight, ShardState, Proposal, each_more, granted_stays, settled_stays, bound_stays, get_front, Known, values_of, IsWritten, IsSettled, DispatcherSound, PairSound, JoinerSound, IsInsertOf, InsertsOf, IsTooOld, HoldsOfOutcome, HoldsOfReply, HoldsOf, DispatcherHolds, FlightHolds, JoinerHolds, HoldsOfProposal, ShardHolds, Grows}

pub begins_self : {A : Type 0} (xs : List A) → Begins xs xs
begins_self xs = ([], go xs)
  where
    go : {A : Type 0} (ys : List A) → ys ≡ ys ++ []
    go [] = refl
    go (y ∷ ys) = ap (λ l. y ∷ l) (go ys)

pub begins_again : {A : Type 0} (xs ys zs : List A) → Begins xs ys → Begins ys zs → Begins xs zs
begins_again xs ys zs p q = (p.0 ++ q.0, q.1 ∙ ap (λ l. l ++ q.0) p.1 ∙ assoc xs p.0 q.0)
  where
    assoc : {A : Type 0} (as_ bs cs : List A) → (as_ ++ bs) ++ cs ≡ as_ ++ (bs ++ cs)
    assoc [] bs cs = refl
    assoc (x ∷ as_) bs cs = ap (λ l. x ∷ l) (assoc as_ bs cs)

module _ (g : Setting) (a b : Known) (up : Grows a b) where
  pub written_lasts : (i : EventId) → IsWritten g a i → IsWritten g b i
  written_lasts i w = (w.0, w.1, w.2, up.pairs w.0 w.1 w.3, w.4)

  pub settled_lasts : (i : EventId) → IsSettled g a i → IsSettled g b i
  settled_lasts i (inl h) = inl (settled_stays (values_of g a i) (values_of g b i) i (up.values _) h)
  settled_lasts i (inr w) = inr (written_lasts i w)

  pub late_lasts : (i : EventId) (c : ℕ) → IsTooOld g a i c → IsTooOld g b i c
  late_lasts i c h = (h.0, let p = h.1 in let q = bound_stays (values_of g a i) (values_of g b i) (up.values _) in omega arith)

  outcome_lasts : (l : ClickLine) (o : Outcome) → HoldsOfOutcome g a l o → HoldsOfOutcome g b l o
  outcome_lasts l Written h = written_lasts l.click.id h
  outcome_lasts l (Already t) h = granted_stays _ _ l.click.id t (up.values _) h
  outcome_lasts l (Late c) h = late_lasts l.click.id c h
  outcome_lasts l _ h = h

  reply_lasts : (x : Insert) (r : Answer) → HoldsOfReply g a x r → HoldsOfReply g b x r
  reply_lasts x Granted h = granted_stays _ _ x.id x.token (up.values _) h
  reply_lasts x (Duplicate t) h = (h.0, granted_stays _ _ x.id t (up.values _) h.1)
  reply_lasts x (TooOld c) h = late_lasts x.id c h

  inserts_last : (s : ℕ) (xs : List Insert) → Each (IsInsertOf g a s) xs → Each (IsInsertOf g b s) xs
  inserts_last s xs h = each_more (IsInsertOf g a s) (IsInsertOf g b s) xs (λ x p. (p.0, up.drawn x p.1)) h

  pub packet_lasts : (p : Packet) → HoldsOf g a p → HoldsOf g b p
  packet_lasts (Joined p o) h = (h.0, h.1, outcome_lasts h.0 o h.2)
  packet_lasts (Claim x) h = up.drawn x h
  packet_lasts (Reply x r) h = reply_lasts x r h
  packet_lasts (Promise p c o) h = grind (arith, inserts_last)
  packet_lasts (Accept p c v) h = inserts_last p.shard v.inserts h
  packet_lasts (Chosen p v) h = subst (λ (l : List Batch). slice_get l p.slot ≡ Some v) (sym (up.values p.shard).1) (get_front (a.values p.shard) (up.values p.shard).0 p.slot v h)
  packet_lasts _ h = h

  pub dispatcher_kept_lasts : (k : DispatcherKept) → DispatcherSound g a k → DispatcherSound g b k
  dispatcher_kept_lasts k s = record { boundary = s.boundary; starts = s.starts; once = s.once; passed = λ l m lt. ⊎_elim (λ h. inl h) (λ h. inr (settled_lasts l.click.id h)) (s.passed l m lt) }

  pub dispatcher_live_lasts : (k : DispatcherKept) (l : DispatcherLive) → DispatcherHolds g a k l → DispatcherHolds g b k l
  dispatcher_live_lasts k l h = grind (arith, each_more, settled_lasts)

  pub pair_lasts : (j e d : ℕ) → e ≤ d → (p : PairRec) → PairSound g a j e p → PairSound g b j d p
  pair_lasts j e d le p s = record { own_query = s.own_query; joiner = s.joiner; epoch = (let q = s.epoch in omega arith); granted = granted_stays _ _ p.click.id p.token (up.values _) s.granted; drawn = up.drawn _ s.drawn }

  pub joiner_kept_lasts : (j : ℕ) (k : JoinerKept) → JoinerSound g a j k → JoinerSound g b j k
  joiner_kept_lasts j k s = record { pairs = each_more (PairSound g a j k.epoch) (PairSound g b j k.epoch) k.pairs (pair_lasts j k.epoch k.epoch (omega arith)) s.pairs; once = s.once }

  pub flight_lasts : (j e m n : ℕ) → m ≤ n → (f : Flight) → FlightHolds g a j e m f → FlightHolds g b j e n f
  flight_lasts j e m n le f h = record { own_query = h.own_query; line = h.line; claimed = up.drawn _ h.claimed; joiner = h.joiner; epoch = h.epoch; number = (let q = h.number in omega arith) }

  -- a joiner's flights last where it has drawn nothing itself
  pub joiner_live_lasts : (j : ℕ) (k : JoinerKept) (l : JoinerLive) → ((x : Insert) → Mem x b.drawn → x.token.joiner ≡ j → Mem x a.drawn) → JoinerHolds g a j k l → JoinerHolds g b j k l
  joiner_live_lasts j k l same h =
      record {
        flights = each_more (FlightHolds g a j k.epoch l.number) (FlightHolds g b j k.epoch l.number) l.flight (flight_lasts j k.epoch l.number l.number (omega arith)) h.flights;
        unused = λ x m i e. h.unused x (same x m i) i e;
        ids_differ = h.ids_differ;
        unwritten = h.unwritten;
      }

  proposal_lasts : (s : ℕ) (o : Option Proposal) → HoldsOfProposal g a s o → HoldsOfProposal g b s o
  proposal_lasts s o h = grind (arith, inserts_last)

  pub shard_lasts : (s : ℕ) (st : ShardState) → ShardHolds g a s st → ShardHolds g b s st
  shard_lasts s st h = record { learned = begins_again st.learned (a.values s) (b.values s) h.learned (up.values s); queue = inserts_last s st.queue h.queue; proposal = proposal_lasts s st.proposal h.proposal }

  pub note_lasts : (x : BallotNote) → InsertsOf g a x → InsertsOf g b x
  note_lasts x h = grind (arith, inserts_last)
