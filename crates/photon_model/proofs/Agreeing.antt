-- Each entry keeps the facts on ballots, and gives what the other facts need of Paxos; so all facts hold after every run.
use Rattle.std.proofs.Common.{◌≡◌, ◌⊎◌, inl, inr, ⊎_elim, ℕ, zero, suc, ◌<◌, ◌≤◌, max, ◌==◌, List, [], ◌∷◌, ◌++◌, length, get_or, Some, None, refl, sym, ap, ◌∙◌, subst, arith, Option, slice_get}
use Rattle.std.proofs.lemmas.Bool.{cond-true, cond-false, eq-eqb, ne_eqb}
use Rattle.photon_model.proofs.Worlds.{row_by}
use Rattle.photon_model.proofs.Words.{Out, dispatcher_start, joiner_start, EventId, Token, Ballot, Insert, Batch, same_batch, at, Mem, Each, Begins, set_at, IsGranted, bound_of, holder, Setting, Checked, IsJoiner, Packet, Join, Joined, Claim, Reply, Node, Dispatcher, Server, Replica, Joiner, To, Sent, Input, Own, Deliver, Place, Vote, acceptance, vote_at, votes_at, votes_in, Has, Promised, Took, HasAccepted, OneChosen, agreed_one, decided_grows, BallotNote, Note, Voted, idle, land, DispatcherKept, DispatcherLive, dispatcher_turn, JoinerKept, JoinerLive, Flight, joiner_turn, ServerKept, ServerLive, land_server, server_turn, ReplicaKept, land_replica, replica_turn, each_at, mem_left, mem_right, mem_split, at_set, at_set_if, holder_granted, holder_first, bound_stays, Addressed, journals, ReplicasSound, Offer, Offered, Votes, note_writes, offer, VotesOf, VotesOfServer, VotesAgree, values_of, IsWritten, Sound, IfUp, IfOpen, known, ServerHolds, WorldHolds, World, Entry, Begin, End, Stop, Disks, disks, begun, ended, stopped, dispatcher_row, server_row, replica_row, joiner_row, sends, after, world_after, WasSent, May, IsRun, opening, decided_in, NoJoinerStops, IsBoundOk, HasBounds, IsFlying, IsResolved, IsChosenNow, PaxosGives, Cell}
use Rattle.photon_model.proofs.DispatcherRows.{each_packet as each_join}
use Rattle.photon_model.proofs.JoinerRows.{each_packet}
use Rattle.photon_model.specs.Journals.{decided}
use Rattle.photon_model.proofs.Journals.{journals_length, journal_of, journals_noted, accepted_note, accepted_stands, exact, decided_accepted}
use Rattle.photon_model.specs.Voting.{votes, BallotsHold}
use Rattle.photon_model.proofs.Growth.{begins_self}
use Rattle.photon_model.proofs.Voting.{with_note, MayNote, ReplicaVotes, offering, ServerVotes, sent, votes_sent, owned_sent, server_sent, votes_written, server_written, agree_noted, idles, gets_votes}
use Rattle.photon_model.proofs.Proposing.{chosen_now, turn_votes}
use Rattle.photon_model.proofs.Lifting.{if_up}
use Rattle.photon_model.proofs.Running.{step, opens}
use Rattle.photon_model.proofs.Fates.{Fates}
use Rattle.photon_model.proofs.Bounds.{OwnBound, PhaseBound, BoundsOf, turn_bounds}

-- ---- dispatchers and joiners send nothing on ballots

abbrev pub IsPlain : Packet → Type 0
IsPlain (Join p c) = Unit {0}
IsPlain (Joined p o) = Unit {0}
IsPlain (Claim x) = Unit {0}
IsPlain (Reply x a) = Unit {0}
IsPlain _ = ⊥

abbrev pub ArePlain : List (To × Packet) → Type 0
ArePlain ps = Each (λ (a : To × Packet). IsPlain a.1) ps

plain_votes : (n : Votes) (from : Node) (p : Packet) → IsPlain p → VotesOf n from p
plain_votes n from p h = grind arith

pub dispatcher_row_plain : (g : Setting) (s : ℕ) (c : Cell DispatcherKept DispatcherLive) → ArePlain (dispatcher_row g s c).packets
dispatcher_row_plain g s c = row_by dispatcher_start (dispatcher_turn g s) c.kept c.live c.opened (λ (o : Out DispatcherLive). ArePlain o.packets) tt (λ l _ i _. each_join g s c.kept l (λ (a : To × Packet). IsPlain a.1) (λ p x. tt) i)

pub joiner_row_plain : (g : Setting) (j : ℕ) (c : Cell JoinerKept JoinerLive) → ArePlain (joiner_row g j c).packets
joiner_row_plain g j c = row_by joiner_start (joiner_turn g j) c.kept c.live c.opened (λ (o : Out JoinerLive). ArePlain o.packets) tt (λ l _ i _. each_packet g j c.kept l (λ (a : To × Packet). IsPlain a.1) (λ p o. tt) (λ x. tt) i)

-- packets of a row, as they were sent
addressed_votes : (g : Setting) (n : Votes) (from : Node) (as_ : List (To × Packet)) (ps : List (Node × Packet)) → Addressed g as_ ps → Each (λ (a : To × Packet). VotesOf n from a.1) as_ → (x : Sent) → Mem x (sends from ps) → VotesOf n x.from x.packet
addressed_votes g n from [] (p ∷ ps) a h x m = absurd a
addressed_votes g n from (b ∷ as_) (p ∷ ps) a h x k = grind (arith, addressed_votes g n from as_ ps a.1 h.1 x)
addressed_votes g n from _ [] a h x m = absurd m

-- what holds of ballots, over votes that are the world's
held : (g : Setting) (v : World) (offered : List Offer) (n : Votes) → votes g v offered ≡ n → VotesAgree n → ((x : Sent) → Mem x v.sent → VotesOf n x.from x.packet) → ((s : ℕ) → s < 2 → IfUp (VotesOfServer n s (v.servers s).kept.epoch) (v.servers s).live) → BallotsHold g v offered
held g v offered n e agree packets servers =
    record {
      agree = subst VotesAgree (sym e) agree;
      packets = λ x m. subst (λ (k : Votes). VotesOf k x.from x.packet) (sym e) (packets x m);
      servers = λ s lt. subst (λ (k : Votes). IfUp (VotesOfServer k s (v.servers s).kept.epoch) (v.servers s).live) (sym e) (servers s lt);
    }

module _ (g : Setting) (w : World) (offered : List Offer) (holds : BallotsHold g w offered) where
  abbrev now : Votes
  now = votes g w offered

  members : length now.journals ≡ g.config.replicas
  members = journals_length g.config.replicas (λ r. (w.replicas r).kept)

  -- a dispatcher's or joiner's cell is replaced
  others_replaced : (v : World) (more : List Sent) → votes g v offered ≡ now → (v.servers ≡ w.servers) → (v.sent ≡ more ++ w.sent) → ((x : Sent) → Mem x more → VotesOf now x.from x.packet) → BallotsHold g v offered
  others_replaced v more same servers sent_ p =
      held g v offered now same holds.agree (λ x m. ⊎_elim (p x) (λ q. holds.packets x q) (mem_split x more w.sent (subst (Mem x) sent_ m)))
      (λ s lt. subst (λ (f : ℕ → Cell ServerKept ServerLive). IfUp (VotesOfServer now s (f s).kept.epoch) (f s).live) (sym servers) (holds.servers s lt))

  -- a replica's cell is replaced
  module _ (r : ℕ) (lt : r < g.config.replicas) (c : Cell ReplicaKept (Unit {0})) (more : List Sent) where
    abbrev pub with_replica : World
    with_replica = record w { replicas = set_at w.replicas r c; sent = more ++ w.sent }

    abbrev kept_then : ℕ → ReplicaKept
    kept_then k = (set_at w.replicas r c k).kept

    set_here : kept_then r ≡ c.kept
    set_here = ap (λ (d : Cell ReplicaKept (Unit {0})). d.kept) (cond-true (r == r) c (w.replicas r) (eq-eqb r r refl))

    within : r < length now.journals
    within = subst (λ m. r < m) (sym members) lt

    -- the votes are those with its note
    votes_then : (o : Option Note) → c.kept ≡ land land_replica o (w.replicas r).kept → MayNote now r o → votes g with_replica offered ≡ with_note now r o
    votes_then h e may = grind (arith, journals_noted, set_here)

    agree_then : (o : Option Note) → MayNote now r o → VotesAgree (with_note now r o)
    agree_then None may = holds.agree
    agree_then (Some (Voted x)) may = agree_noted now holds.agree r within x may
    agree_then _ may = absurd may

    packets_then : (o : Option Note) → MayNote now r o → (from : Node) (p : Packet) → VotesOf now from p → VotesOf (with_note now r o) from p
    packets_then None may from p h = h
    packets_then (Some (Voted x)) may from p h = votes_written now _ (λ q. note_writes (Offered now) now.journals r x q within (may.0 q)) from p h
    packets_then _ may from p h = absurd may

    servers_then : (o : Option Note) → MayNote now r o → (s e : ℕ) (l : ServerLive) → VotesOfServer now s e l → VotesOfServer (with_note now r o) s e l
    servers_then None may s e l h = h
    servers_then (Some (Voted x)) may s e l h = server_written now _ (λ q. note_writes (Offered now) now.journals r x q within (may.0 q)) s e l h
    servers_then _ may s e l h = absurd may

    -- what is decided stays
    decided_then : (o : Option Note) → MayNote now r o → (s : ℕ) → Begins (decided now.journals s) (decided (with_note now r o).journals s)
    decided_then None may s = begins_self (decided now.journals s)
    decided_then (Some (Voted x)) may s = decided_grows same_batch exact holds.agree.agree (agree_noted now holds.agree r within x may).agree (λ q. note_writes (Offered now) now.journals r x q within (may.0 q)) s
    decided_then _ may s = absurd may

    replica_then : (o : Option Note) → c.kept ≡ land land_replica o (w.replicas r).kept → MayNote now r o → ((x : Sent) → Mem x more → VotesOf (with_note now r o) x.from x.packet) → BallotsHold g with_replica offered × ((s : ℕ) → Begins (decided_in g w s) (decided_in g with_replica s))
    replica_then o e may p = (
      held g with_replica offered (with_note now r o) (votes_then o e may) (agree_then o may) (λ x m. ⊎_elim (p x) (λ q. packets_then o may x.from x.packet (holds.packets x q)) (mem_split x more w.sent m))
          (λ s k. if_up (VotesOfServer now s (w.servers s).kept.epoch) (VotesOfServer (with_note now r o) s (w.servers s).kept.epoch) (w.servers s).live (servers_then o may s (w.servers s).kept.epoch) (holds.servers s k)),
      λ s. subst (λ (n : Votes). Begins (decided now.journals s) (decided n.journals s)) (sym (votes_then o e may)) (decided_then o may s),
    )

  -- a server's cell is replaced, and values are offered
  module _ (s : ℕ) (c : Cell ServerKept ServerLive) (more : List Sent) (new : List Offer) where
    abbrev pub with_server : World
    with_server = record w { servers = set_at w.servers s c; sent = more ++ w.sent }

    server_then : (w.servers s).kept.epoch ≤ c.kept.epoch → Each (λ (x : Offer). x.ballot.site ≡ s) new → VotesAgree (offering now new) → IfUp (VotesOfServer (offering now new) s c.kept.epoch) c.live → ((x : Sent) → Mem x more → VotesOf (offering now new) x.from x.packet) → BallotsHold g with_server (new ++ offered)
    server_then le sites agree live p =
        record {
          agree = record { agree = agree.agree; offers = agree.offers; took = agree.took; owned_offers = λ x m. owned_sent (offering now new) [] epochs_then up x.ballot (agree.owned_offers x m); owned_notes = λ at r x h. owned_sent (offering now new) [] epochs_then up x.ballot (agree.owned_notes at r x h) };
          packets = λ x m. ⊎_elim (λ q. votes_sent (offering now new) [] epochs_then up x.from x.packet (p x q)) (λ q. votes_sent now new epochs_then up x.from x.packet (holds.packets x q)) (mem_split x more w.sent m);
          servers = at_set_if (λ t. t < 2) (λ t (d : Cell ServerKept ServerLive). IfUp (VotesOfServer (sent now new epochs_then up) t d.kept.epoch) d.live) w.servers s c
              (if_up (VotesOfServer (offering now new) s c.kept.epoch) (VotesOfServer (sent now new epochs_then up) s c.kept.epoch) c.live (λ l h. server_sent (offering now new) [] epochs_then up s c.kept.epoch l (λ x m. absurd m) h) live)
              (λ t k ne. if_up (VotesOfServer now t (w.servers t).kept.epoch) (VotesOfServer (sent now new epochs_then up) t (w.servers t).kept.epoch) (w.servers t).live (λ l h. server_sent now new epochs_then up t (w.servers t).kept.epoch l (λ x m e. ne (sym e ∙ each_at (λ (y : Offer). y.ballot.site ≡ s) new sites x m)) h) (holds.servers t k));
        }
      where
        epochs_then : ℕ → ℕ
        epochs_then t = (set_at w.servers s c t).kept.epoch

        up : (t : ℕ) → (w.servers t).kept.epoch ≤ epochs_then t
        up = at_set (λ t (d : Cell ServerKept ServerLive). (w.servers t).kept.epoch ≤ d.kept.epoch) w.servers s c le (λ t. omega arith)

  -- ---- rows

  input_votes : (n : Node) (i : Input) → WasSent w.sent n i → (from : Node) (p : Packet) → i ≡ Deliver from p → VotesOf now from p
  input_votes n (Deliver f q) m from p e = let a : f ≡ from = cc in let b : q ≡ p = cc in subst (λ (x : Node × Packet). VotesOf now x.0 x.1) (λ i. (a i, b i)) (holds.packets _ m)
  input_votes n _ m from p e = absurd (cc)

  replica_row_votes : (r : ℕ) → r < g.config.replicas → IfOpen w.sent (Replica r) (w.replicas r).opened → ReplicaVotes now r (replica_row (w.replicas r))
  replica_row_votes r lt open_ = go (w.replicas r).live (w.replicas r).opened open_
    where
      inside : r < length now.journals
      inside = subst (λ m. r < m) (sym members) lt

      own : get_or now.journals r [] ≡ (w.replicas r).kept.notes
      own = journal_of g.config.replicas (λ k. (w.replicas k).kept) r lt

      idle_ : ReplicaVotes now r (idle tt)
      idle_ = idles now holds.agree r inside (w.replicas r).kept own

      turn : (i : Input) → WasSent w.sent (Replica r) i → ReplicaVotes now r (replica_turn (w.replicas r).kept i)
      turn (Deliver from p) m = gets_votes now holds.agree r inside (w.replicas r).kept own from p (input_votes (Replica r) (Deliver from p) m from p refl)
      turn _ m = idle_

      go : (l : Option (Unit {0})) (o : Option Input) → IfOpen w.sent (Replica r) o → ReplicaVotes now r (replica_row (record { kept = (w.replicas r).kept; live = l; opened = o }))
      go l o h = grind (arith, turn)

  server_row_votes : (s : ℕ) → s < 2 → IfOpen w.sent (Server s) (w.servers s).opened → ((w.servers s).kept.epoch ≤ (land land_server (server_row g s (w.servers s)).note (w.servers s).kept).epoch) × ServerVotes now s (land land_server (server_row g s (w.servers s)).note (w.servers s).kept).epoch (server_row g s (w.servers s))
  server_row_votes s lt open_ = go (w.servers s).live (holds.servers s lt) (w.servers s).opened open_
    where
      k : ServerKept
      k = (w.servers s).kept

      turn : (l : ServerLive) → VotesOfServer now s k.epoch l → (i : Input) → ((from : Node) (p : Packet) → i ≡ Deliver from p → VotesOf now from p) → (k.epoch ≤ (land land_server (server_turn g s k l i).note k).epoch) × ServerVotes now s (land land_server (server_turn g s k l i).note k).epoch (server_turn g s k l i)
      turn l h i v = let t = turn_votes now holds.agree g members s lt k refl l h i v in subst (λ (q : Option Note). (k.epoch ≤ (land land_server q k).epoch) × ServerVotes now s (land land_server q k).epoch (server_turn g s k l i)) (sym t.0) (omega arith, t.1)

      go : (l : Option ServerLive) → IfUp (VotesOfServer now s k.epoch) l → (o : Option Input) → IfOpen w.sent (Server s) o → (k.epoch ≤ (land land_server (server_row g s (record { kept = k; live = l; opened = o })).note k).epoch) × ServerVotes now s (land land_server (server_row g s (record { kept = k; live = l; opened = o })).note k).epoch (server_row g s (record { kept = k; live = l; opened = o }))
      go None h o q = grind arith
      go (Some l) h None q = turn l h Own (λ from p e. absurd (cc))
      go (Some l) h (Some i) q = turn l h i (input_votes (Server s) i q)

-- ---- each entry

abbrev pub BoundsHold : Setting → List ℕ → World → List Offer → Type 0
BoundsHold g old w offered = ((x : Offer) → Mem x offered → IsBoundOk g old x.value.bound) × ((s : ℕ) → s < 2 → IfUp (BoundsOf g old) (w.servers s).live)

module _ (g : Setting) (c : Checked g) (old : List ℕ) (w : World) (drawn : List Insert) (offered : List Offer) (holds : WorldHolds g w drawn) (ballots : BallotsHold g w offered) where
  abbrev votes_now : Votes
  votes_now = votes g w offered

  abbrev Next : Entry → Type 0
  Next e = (o : List Offer) × ((BallotsHold g (after g w e) o × ((s : ℕ) → Begins (decided_in g w s) (decided_in g (after g w e) s))) × (BoundsHold g old w offered → BoundsHold g old (after g w e) o))

  -- the packets of a node that says nothing on ballots
  plain_sent : (n : Node) (as_ : List (To × Packet)) (ps : List (Node × Packet)) → Addressed g as_ ps → ArePlain as_ → (x : Sent) → Mem x (sends n ps) → VotesOf votes_now x.from x.packet
  plain_sent n as_ ps a h = addressed_votes g votes_now n as_ ps a (go as_ h)
    where
      go : (xs : List (To × Packet)) → ArePlain xs → Each (λ (a : To × Packet). VotesOf votes_now n a.1) xs
      go [] h = tt
      go (x ∷ xs) h = (plain_votes votes_now n x.1 h.0, go xs h.1)

  none_sent : (x : Sent) → Mem x [] → VotesOf votes_now x.from x.packet
  none_sent x m = absurd m

  replica_same : (r : ℕ) → r < g.config.replicas → (l : Option (Unit {0})) (i : Option Input) → BallotsHold g (record w { replicas = set_at w.replicas r (record { kept = (w.replicas r).kept; live = l; opened = i }) }) offered × ((s : ℕ) → Begins (decided_in g w s) (decided_in g (record w { replicas = set_at w.replicas r (record { kept = (w.replicas r).kept; live = l; opened = i }) }) s))
  replica_same r lt l i = replica_then g w offered ballots r lt (record { kept = (w.replicas r).kept; live = l; opened = i }) [] None refl tt (λ x m. absurd m)

  replica_row_of : (r : ℕ) → r < g.config.replicas → ReplicaVotes votes_now r (replica_row (w.replicas r))
  replica_row_of r lt = replica_row_votes g w offered ballots r lt (holds.replicas r lt).opened

  server_row_bounds : (s : ℕ) → s < 2 → BoundsHold g old w offered → BoundsOf g old (server_row g s (w.servers s)).live
  server_row_bounds s lt t = go (w.servers s).live (t.1 s lt) (w.servers s).opened (holds.servers s lt).opened
    where
      turn : (l : ServerLive) → BoundsOf g old l → (i : Input) → ((from : Node) (p : Packet) → i ≡ Deliver from p → VotesOf votes_now from p) → BoundsOf g old (server_turn g s (w.servers s).kept l i).live
      turn l h i v = turn_bounds g old s votes_now ballots.agree t.0 (w.servers s).kept l h i v

      go : (l : Option ServerLive) → IfUp (BoundsOf g old) l → (o : Option Input) → IfOpen w.sent (Server s) o → BoundsOf g old (server_row g s (record { kept = (w.servers s).kept; live = l; opened = o })).live
      go None h o q = λ x. tt
      go (Some l) h None q = turn l h Own (λ from p e. absurd (cc))
      go (Some l) h (Some i) q = turn l h i (input_votes g w offered ballots (Server s) i q)

  new_bound : (s : ℕ) {e : ℕ} (k : ServerVotes votes_now s e (server_row g s (w.servers s))) → BoundsOf g old (server_row g s (w.servers s)).live → (x : Offer) → Mem x k.new → IsBoundOk g old x.value.bound
  new_bound s k v x m = let q = k.values x m in subst (PhaseBound g old) q.4 (subst (OwnBound g old) q.3 (v q.0)).1

  next : (e : Entry) → May g w e → Next e
  next (Begin (Dispatcher s) i) m = (offered, ((others_replaced g w offered ballots (after g w (Begin (Dispatcher s) i)) [] refl refl refl none_sent, λ s. begins_self (decided_in g w s)), λ t. t))
  next (Begin (Joiner j) i) m = (offered, ((others_replaced g w offered ballots (after g w (Begin (Joiner j) i)) [] refl refl refl none_sent, λ s. begins_self (decided_in g w s)), λ t. t))
  next (Begin (Server s) i) m = (offered, ((server_then g w offered ballots s (begun (w.servers s) i) [] [] (omega arith) tt ballots.agree (ballots.servers s m.0) (λ x q. absurd q), λ s. begins_self (decided_in g w s)), λ t. (t.0, at_set_if (λ x. x < 2) (λ x (d : Cell ServerKept ServerLive). IfUp (BoundsOf g old) d.live) w.servers s (begun (w.servers s) i) (t.1 s m.0) (λ x lt ne. t.1 x lt))))
  next (Begin (Replica r) i) m = (offered, (replica_same r m.0 (w.replicas r).live (Some i), λ t. t))
  next (End (Dispatcher s) note_ ps kept) m = (offered, ((others_replaced g w offered ballots (after g w (End (Dispatcher s) note_ ps kept)) (sends (Dispatcher s) ps) refl refl refl (plain_sent (Dispatcher s) (dispatcher_row g s (w.dispatchers s)).packets ps m.1.2 (dispatcher_row_plain g s (w.dispatchers s))), λ s. begins_self (decided_in g w s)), λ t. t))
  next (End (Joiner j) note_ ps kept) m = (offered, ((others_replaced g w offered ballots (after g w (End (Joiner j) note_ ps kept)) (sends (Joiner j) ps) refl refl refl (plain_sent (Joiner j) (joiner_row g j (w.joiners j)).packets ps m.1.2 (joiner_row_plain g j (w.joiners j))), λ s. begins_self (decided_in g w s)), λ t. t))
  next (End (Server s) note_ ps kept) m =
      let k = server_row_votes g w offered ballots s m.0 (holds.servers s m.0).opened in (
        k.1.new ++ offered,
        (
          (
            subst (λ (q : Option Note). BallotsHold g (after g w (End (Server s) q ps kept)) (k.1.new ++ offered)) (sym m.1.1)
                (server_then g w offered ballots s (ended land_server (w.servers s) (server_row g s (w.servers s)).note (server_row g s (w.servers s)).live) (sends (Server s) ps) k.1.new k.0 k.1.sites k.1.agree k.1.server
                (addressed_votes g (offering votes_now k.1.new) (Server s) (server_row g s (w.servers s)).packets ps m.1.2 k.1.packets)),
            λ s. begins_self (decided_in g w s),
          ),
          λ t. let v = server_row_bounds s m.0 t in (
            (λ x q. ⊎_elim (λ y. new_bound s k.1 v x y) (λ y. t.0 x y) (mem_split x k.1.new offered q)),
            at_set_if (λ x. x < 2) (λ x (d : Cell ServerKept ServerLive). IfUp (BoundsOf g old) d.live) w.servers s (ended land_server (w.servers s) note_ (server_row g s (w.servers s)).live) v (λ x lt ne. t.1 x lt),
          ),
        ),
      )
  next (End (Replica r) note_ ps kept) m =
      let k = replica_row_of r m.0 in
      let d = ended land_replica (w.replicas r) (replica_row (w.replicas r)).note (replica_row (w.replicas r)).live in
      let h = replica_then g w offered ballots r m.0 d (sends (Replica r) ps) (replica_row (w.replicas r)).note refl k.note (addressed_votes g (with_note votes_now r (replica_row (w.replicas r)).note) (Replica r) (replica_row (w.replicas r)).packets ps m.1.2 k.packets) in
      (offered, (subst (λ (q : Option Note). BallotsHold g (after g w (End (Replica r) q ps kept)) offered × ((s : ℕ) → Begins (decided_in g w s) (decided_in g (after g w (End (Replica r) q ps kept)) s))) (sym m.1.1) h, λ t. t))
  next (Stop (Dispatcher s) landed) m = (offered, ((others_replaced g w offered ballots (after g w (Stop (Dispatcher s) landed)) [] refl refl refl none_sent, λ s. begins_self (decided_in g w s)), λ t. t))
  next (Stop (Joiner j) landed) m = (offered, ((others_replaced g w offered ballots (after g w (Stop (Joiner j) landed)) [] refl refl refl none_sent, λ s. begins_self (decided_in g w s)), λ t. t))
  next (Stop (Server s) landed) m =
      let k = server_row_votes g w offered ballots s m.0 (holds.servers s m.0).opened in (
        offered,
        (
          (
            server_then g w offered ballots s (stopped land_server (w.servers s) landed) [] []
                (⊎_elim
                (λ (e : landed ≡ None). subst (λ (q : Option Note). (w.servers s).kept.epoch ≤ (land land_server q (w.servers s).kept).epoch) (sym e) (omega arith))
                (λ (e : landed ≡ (server_row g s (w.servers s)).note). subst (λ (q : Option Note). (w.servers s).kept.epoch ≤ (land land_server q (w.servers s).kept).epoch) (sym e) k.0)
                m.1.1)
                tt ballots.agree tt (λ x q. absurd q),
            λ s. begins_self (decided_in g w s),
          ),
          λ t. (t.0, at_set_if (λ x. x < 2) (λ x (d : Cell ServerKept ServerLive). IfUp (BoundsOf g old) d.live) w.servers s (stopped land_server (w.servers s) landed) tt (λ x lt ne. t.1 x lt)),
        ),
      )
  next (Stop (Replica r) landed) m =
      let k = replica_row_of r m.0 in (
        offered,
        (
          ⊎_elim
              (λ (e : landed ≡ None). subst (λ (q : Option Note). BallotsHold g (after g w (Stop (Replica r) q)) offered × ((s : ℕ) → Begins (decided_in g w s) (decided_in g (after g w (Stop (Replica r) q)) s))) (sym e) (replica_same r m.0 None None))
              (λ (e : landed ≡ (replica_row (w.replicas r)).note). subst (λ (q : Option Note). BallotsHold g (after g w (Stop (Replica r) q)) offered × ((s : ℕ) → Begins (decided_in g w s) (decided_in g (after g w (Stop (Replica r) q)) s))) (sym e)
              (replica_then g w offered ballots r m.0 (stopped land_replica (w.replicas r) (replica_row (w.replicas r)).note) [] (replica_row (w.replicas r)).note refl k.note (λ x q. absurd q)))
              m.1.1,
          λ t. t,
        ),
      )

  -- what the second Accepted means
  chosen_here : (s : ℕ) (l : ServerLive) (i : Input) → s < 2 → (w.servers s).live ≡ Some l → (w.servers s).opened ≡ Some i → IsChosenNow g (known g w drawn) l i
  chosen_here s l i lt e o =
      chosen_now votes_now ballots.agree g (members g w offered ballots) s lt (w.servers s).kept refl l
      (subst (IfUp (VotesOfServer votes_now s (w.servers s).kept.epoch)) e (ballots.servers s lt))
      (known g w drawn) (λ t. refl)
      (subst (IfUp (ServerHolds g (known g w drawn))) e (holds.servers s lt).live)
      i
      (λ r p q. input_votes g w offered ballots (Server s) i (subst (IfOpen w.sent (Server s)) o (holds.servers s lt).opened) (Replica r) p q)

  gives : (e : Entry) → May g w e → PaxosGives g w e
  gives e m = record { grows = (next e m).1.0.1; chosen = chosen_here }

split_stops : (e : Entry) (es : List Entry) → NoJoinerStops (e ∷ es) → NoJoinerStops (e ∷ []) × NoJoinerStops es
split_stops e es h = grind arith

pub runs : (g : Setting) → Checked g → (old : List Insert) (bounds : List ℕ) (es : List Entry) (w : World) (drawn : List Insert) (offered : List Offer) → WorldHolds g w drawn → BallotsHold g w offered → IsRun g w es →
    (d : List Insert) × (o : List Offer) × WorldHolds g (world_after g w es) d × BallotsHold g (world_after g w es) o × (Fates g old w drawn → NoJoinerStops es → Fates g old (world_after g w es) d) × (BoundsHold g bounds w offered → BoundsHold g bounds (world_after g w es) o)
runs g c old bounds [] w drawn offered h b r = (drawn, offered, h, b, (λ t _. t), (λ t. t))
runs g c old bounds (e ∷ es) w drawn offered h b r =
    let n = step g c old w drawn h e r.0 (gives g c bounds w drawn offered h b e r.0) in
    let v = next g c bounds w drawn offered h b e r.0 in
    let z = runs g c old bounds es (after g w e) n.0 v.0 n.1 v.1.0.0 r.1 in
    (z.0, z.1, z.2, z.3, (λ t s. let q = split_stops e es s in z.4 (n.2 t q.0) q.1), (λ t. z.5 (v.1.1 t)))

-- ---- the opening

offers_of : List BallotNote → List Offer
offers_of [] = []
offers_of (Took at b v ∷ ns) = offer at b v ∷ offers_of ns
offers_of (Promised at b ∷ ns) = offers_of ns

all_offers : List (List BallotNote) → List Offer
all_offers [] = []
all_offers (ns ∷ js) = offers_of ns ++ all_offers js

note_offered : (ns : List BallotNote) (at : Place) (b : Ballot) (v : Batch) → Mem (Took at b v) ns → Mem (offer at b v) (offers_of ns)
unfolding offers_of
note_offered [] at b v m = absurd m
note_offered (Took p c w ∷ ns) at b v h = grind (arith, note_offered ns at b v)
note_offered (Promised p c ∷ ns) at b v m = ⊎_elim (λ e. absurd (cc)) (λ k. note_offered ns at b v k) m

has_right : (xs ys : List (Vote Batch)) (x : Vote Batch) → Has ys x → Has (xs ++ ys) x
has_right [] ys x h = h
has_right (y ∷ xs) ys x h = inr (has_right xs ys x h)

offer_noted : (ns : List BallotNote) (x : Offer) → Mem x (offers_of ns) → HasAccepted (votes_at x.place ns) x.ballot x.value
unfolding offers_of
offer_noted [] x m = absurd m
offer_noted (Took p c w ∷ ns) x h = grind (arith, offer_noted ns x)
offer_noted (Promised p c ∷ ns) x m = has_right (vote_at x.place (Promised p c)) (votes_at x.place ns) (acceptance x.ballot x.value) (offer_noted ns x m)

to_offers : (js : List (List BallotNote)) (at : Place) (r : ℕ) (b : Ballot) (v : Batch) → HasAccepted (votes_in js at r) b v → Mem (offer at b v) (all_offers js)
unfolding all_offers
to_offers [] at r b v h = h
to_offers (ns ∷ js) at zero b v h = mem_left (offer at b v) (offers_of ns) (all_offers js) (note_offered ns at b v (accepted_note at ns b v h))
to_offers (ns ∷ js) at (suc r) b v h = mem_right (offer at b v) (offers_of ns) (all_offers js) (to_offers js at r b v h)

from_offers : (js : List (List BallotNote)) (x : Offer) → Mem x (all_offers js) → (r : ℕ) × HasAccepted (votes_in js x.place r) x.ballot x.value
unfolding all_offers
from_offers [] x m = absurd m
from_offers (ns ∷ js) x m = ⊎_elim (λ k. (0, offer_noted ns x k)) (λ k. let h = from_offers js x k in (suc h.0, h.1)) (mem_split x (offers_of ns) (all_offers js) m)

opening_agrees : (js : List (List BallotNote)) (epochs : ℕ → ℕ) → ReplicasSound js epochs → VotesAgree (record { journals = js; offered = all_offers js; epochs = epochs })
opening_agrees js epochs sound =
    record {
      agree = sound.agree;
      offers = λ x m.
          let a = from_offers js x m in
          record {
            safe = (sound.agree x.place).safe a.0 x.ballot x.value a.1;
            only = (sound.agree x.place).one_value a.0 x.ballot x.value a.1;
            one = λ u k. let c = from_offers js (offer x.place x.ballot u) k in (sound.agree x.place).one_value a.0 x.ballot x.value a.1 c.0 u c.1;
          };
      took = to_offers js;
      owned_offers = λ x m. let a = from_offers js x m in sound.owned x.place a.0 (acceptance x.ballot x.value) a.1;
      owned_notes = sound.owned;
    }

pub opens_ballots : (g : Setting) (d : Disks) (drawn : List Insert) → Sound g d drawn → (o : List Offer) × BallotsHold g (opening d) o
opens_ballots g d drawn s = (
  all_offers (journals g.config.replicas d.replicas),
  record { agree = opening_agrees (journals g.config.replicas d.replicas) (λ t. (d.servers t).epoch) s.replicas; packets = λ x m. absurd m; servers = λ t lt. tt },
)

pub every_run_holds : (g : Setting) (d : Disks) (drawn : List Insert) (es : List Entry) → Checked g → Sound g d drawn → IsRun g (opening d) es → (now : List Insert) × (offered : List Offer) × WorldHolds g (world_after g (opening d) es) now × BallotsHold g (world_after g (opening d) es) offered
every_run_holds g d drawn es c s r = let o = opens_ballots g d drawn s in let z = runs g c drawn [] es (opening d) drawn o.0 (opens g d drawn s) o.1 r in (z.0, z.1, z.2, z.3)

-- ---- and at its end

pub closes : (g : Setting) (w : World) (drawn : List Insert) (offered : List Offer) → WorldHolds g w drawn → BallotsHold g w offered → Sound g (disks w) drawn
closes g w drawn offered h b = grind arith

pub one_decided : (g : Setting) (w : World) (offered : List Offer) → BallotsHold g w offered → OneChosen (journals g.config.replicas (λ r. (w.replicas r).kept))
one_decided g w offered h = agreed_one (journals g.config.replicas (λ r. (w.replicas r).kept)) h.agree.agree

-- what was granted was drawn
pub granted_drawn : (g : Setting) (w : World) (drawn : List Insert) (offered : List Offer) → WorldHolds g w drawn → BallotsHold g w offered → (i : EventId) (t : Token) → IsGranted (values_of g (known g w drawn) i) i t → Mem (record { id = i; token = t }) drawn
granted_drawn g w drawn offered h b i t x = grind (arith, decided_accepted, accepted_stands, each_at)

pub missing_is_old : (g : Setting) (d : Disks) (drawn : List Insert) (es : List Entry) → Checked g → Sound g d drawn → IsRun g (opening d) es → NoJoinerStops es →
    ((j : ℕ) (l : JoinerLive) → IsJoiner g j → ((world_after g (opening d) es).joiners j).live ≡ Some l → l.flight ≡ []) →
    (i : EventId) (t : Token) → holder (values_of g (known g (world_after g (opening d) es) []) i) i ≡ Some t → (IsWritten g (known g (world_after g (opening d) es) []) i → ⊥) → Mem (record { id = i; token = t }) drawn
missing_is_old g d drawn es c s r calm landed_ i t held unwritten =
    ⊎_elim (λ x. ⊎_elim (λ m. m) (λ x. absurd (no_flight (w.joiners t.joiner).live refl x)) x) (λ x. absurd (not_resolved x)) (fates (record { id = i; token = t }) was_drawn)
  where
    w : World
    w = world_after g (opening d) es

    o : (q : List Offer) × BallotsHold g (opening d) q
    o = opens_ballots g d drawn s

    z : (n : List Insert) × (q : List Offer) × WorldHolds g w n × BallotsHold g w q × (Fates g drawn (opening d) drawn → NoJoinerStops es → Fates g drawn w n) × (BoundsHold g [] (opening d) o.0 → BoundsHold g [] w q)
    z = runs g c drawn [] es (opening d) drawn o.0 (opens g d drawn s) o.1 r

    fates : Fates g drawn w z.0
    fates = z.4 (λ x m. inl (inl m)) calm

    bound : bound_of (values_of g (known g w []) i) ≤ i.micros
    bound = grind arith

    granted : IsGranted (values_of g (known g w []) i) i t
    granted = holder_granted (values_of g (known g w []) i) i t bound (holder_first (values_of g (known g w []) i) i t held)

    was_drawn : Mem (record { id = i; token = t }) z.0
    was_drawn = granted_drawn g w z.0 z.1 z.2 z.3 i t granted

    no_flight : (l : Option JoinerLive) → (w.joiners t.joiner).live ≡ l → IsFlying l (record { id = i; token = t }) → ⊥
    no_flight None e x = x
    no_flight (Some l) e x = subst (λ (fs : List Flight). Mem x.0 fs → ⊥) (sym (landed_ t.joiner l (z.2.drawing.joiner (record { id = i; token = t }) was_drawn) e)) (λ m. m) x.1

    not_resolved : IsResolved g (known g w z.0) (record { id = i; token = t }) → ⊥
    not_resolved h = grind (arith, w)

-- ---- the decided bound

bound_from : (g : Setting) (old : List ℕ) (vs : List Batch) → ((k : ℕ) (v : Batch) → slice_get vs k ≡ Some v → IsBoundOk g old v.bound) → (bound_of vs ≡ 0) ⊎ IsBoundOk g old (bound_of vs)
bound_from g old [] h = inl refl
bound_from g old (v ∷ vs) h =
    ⊎_elim
    (λ e. inr (subst (IsBoundOk g old) (let q : v.bound ≡ max v.bound (bound_of vs) = omega arith in q) (h 0 v refl)))
    (λ o. ⊎_elim
    (λ lt. inr (subst (IsBoundOk g old) (let q : bound_of vs ≡ max v.bound (bound_of vs) = omega arith in q) o))
    (λ ge. inr (subst (IsBoundOk g old) (let q : v.bound ≡ max v.bound (bound_of vs) = omega arith in q) (h 0 v refl)))
    (Rattle.std.proofs.lemmas.Bool.cases_lt v.bound (bound_of vs)))
    (bound_from g old vs (λ k u e. h (suc k) u e))

-- each decided value's bound is the horizon or an earlier one
pub decided_bound : (g : Setting) (d : Disks) (drawn : List Insert) (old : List ℕ) (es : List Entry) → Checked g → Sound g d drawn → HasBounds g d old → IsRun g (opening d) es →
    (shard_ k : ℕ) (v : Batch) → slice_get (decided_in g (world_after g (opening d) es) shard_) k ≡ Some v → IsBoundOk g old v.bound
unfolding opens_ballots
decided_bound g d drawn old es c s has_ r shard_ k v e =
    let z = runs g c drawn old es (opening d) drawn (opens_ballots g d drawn s).0 (opens g d drawn s) (opens_ballots g d drawn s).1 r in
    let w = world_after g (opening d) es in
    let b = z.5 ((λ x m. let q = from_offers (journals g.config.replicas d.replicas) x m in let a = accepted_stands g.config.replicas d.replicas x.place q.0 x.ballot x.value q.1 in inr (has_ q.0 x.place x.ballot x.value a.0 a.1)), (λ x k. tt)) in
    let here : Place = record { shard = shard_; slot = k } in
    let q = decided_accepted (journals g.config.replicas (λ r. (w.replicas r).kept)) z.3.agree.agree shard_ k v e in
    b.0 (offer here q.1 v) (z.3.agree.took here q.0 q.1 v q.2)

pub bound_is_ok : (g : Setting) (d : Disks) (drawn : List Insert) (old : List ℕ) (es : List Entry) → Checked g → Sound g d drawn → HasBounds g d old → IsRun g (opening d) es →
    (s shard_ : ℕ) (l : ServerLive) → s < 2 → ((world_after g (opening d) es).servers s).live ≡ Some l → g.config.horizon ≤ bound_of (l.shards shard_).learned →
    (g.config.horizon ≤ bound_of (decided_in g (world_after g (opening d) es) shard_)) × IsBoundOk g old (bound_of (decided_in g (world_after g (opening d) es) shard_))
bound_is_ok g d drawn old es c s has_ r t shard_ l lt up le =
    let w = world_after g (opening d) es in
    let h = every_run_holds g d drawn es c s r in
    let known_ = (subst (IfUp (ServerHolds g (known g w h.0))) up (h.2.servers t lt).live) shard_ in
    let most = bound_stays (l.shards shard_).learned (decided_in g w shard_) known_.learned in
    let each = bound_from g old (decided_in g w shard_) (decided_bound g d drawn old es c s has_ r shard_) in
    (omega arith, ⊎_elim (λ e. inl (omega arith)) (λ o. o) each)
