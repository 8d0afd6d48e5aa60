-- From one node's row to the whole world: the other nodes' facts last.
use Rattle.std.proofs.Common.{◌≡◌, ◌≢◌, ⊎_elim, ℕ, ◌<◌, ◌≤◌, Bool, true, false, cond, ◌==◌, List, ◌++◌, Some, None, refl, sym, ap, ◌∙◌, subst, arith, Option, ◌⊎◌}
use Rattle.std.proofs.lemmas.Bool.{cond_both, eq-eqb}
use Rattle.photon_model.proofs.Worlds.{row_by}
use Rattle.photon_model.proofs.Words.{dispatcher_start, dispatcher_turn, joiner_start, joiner_turn, replica_start, replica_turn, Insert, Mem, Each, Begins, set_at, Setting, Checked, IsJoiner, Packet, Node, Dispatcher, Server, Replica, Joiner, To, Sent, PairRec, Input, Own, Deliver, DispatcherKept, DispatcherLive, JoinerKept, JoinerLive, ServerKept, ServerLive, ReplicaKept, mem_right, mem_split, each_at, each_more, InsertsOf, at_set, at_set_if, Addressed, Known, JoinerSound, HoldsOf, HoldsOfInput, DispatcherHolds, JoinerHolds, ServerHolds, IfUp, IfOpen, known, DispatcherFacts, JoinerFacts, ServerFacts, ReplicaFacts, WorldHolds, World, dispatcher_row, server_row, replica_row, joiner_row, sends, WasSent, Grows, PacketsHold, extended, IsDrawing, DispatcherKeeps, JoinerKeeps, ServerKeeps, ReplicaKeeps, IsChosenNow, decided_in, Cell}
use Rattle.photon_model.proofs.Growth.{begins_self, packet_lasts, dispatcher_kept_lasts, dispatcher_live_lasts, joiner_kept_lasts, joiner_live_lasts, shard_lasts, note_lasts}
use Rattle.photon_model.proofs.Finding.{sent_addressed}
use Rattle.photon_model.proofs.Dispatching.{dispatcher_keeps, dispatcher_start_keeps}
use Rattle.photon_model.proofs.Joining.{joiner_keeps, joiner_start_keeps}
use Rattle.photon_model.proofs.Serving.{server_keeps, server_start_keeps}
use Rattle.photon_model.proofs.Replicating.{replica_keeps}

-- packets of a row, as they were sent
pub addressed_hold : (g : Setting) (n : Known) (from : Node) (as_ : List (To × Packet)) (ps : List (Node × Packet)) → Addressed g as_ ps → PacketsHold g n as_ → (x : Sent) → Mem x (sends from ps) → HoldsOf g n x.packet
addressed_hold g n from as_ ps a h x m = let s = sent_addressed g from as_ ps a x m in subst (HoldsOf g n) s.2 (each_at (λ (b : To × Packet). HoldsOf g n b.1) as_ h s.0 s.1)

sent_lasts : (more sent : List Sent) (n : Node) (i : Input) → WasSent sent n i → WasSent (more ++ sent) n i
sent_lasts more sent n i h = grind (arith, mem_right)

open_lasts : (more sent : List Sent) (n : Node) (o : Option Input) → IfOpen sent n o → IfOpen (more ++ sent) n o
open_lasts more sent n o h = grind (arith, sent_lasts)

pub if_up : {L : Type 0} (P Q : L → Type 0) (o : Option L) → ((l : L) → P l → Q l) → IfUp P o → IfUp Q o
if_up P Q o f h = grind arith

module _ (g : Setting) (a b : Known) (up : Grows a b) (more sent : List Sent) where
  dispatcher_lasts : (s : ℕ) (c : Cell DispatcherKept DispatcherLive) → DispatcherFacts g a sent s c → DispatcherFacts g b (more ++ sent) s c
  dispatcher_lasts s c h = record { kept = dispatcher_kept_lasts g a b up c.kept h.kept; live = if_up (DispatcherHolds g a c.kept) (DispatcherHolds g b c.kept) c.live (dispatcher_live_lasts g a b up c.kept) h.live; opened = open_lasts more sent (Dispatcher s) c.opened h.opened }

  joiner_lasts : (j : ℕ) (c : Cell JoinerKept JoinerLive) → ((x : Insert) → Mem x b.drawn → x.token.joiner ≡ j → Mem x a.drawn) → JoinerFacts g a sent j c → JoinerFacts g b (more ++ sent) j c
  joiner_lasts j c same h = record { kept = joiner_kept_lasts g a b up j c.kept h.kept; live = if_up (JoinerHolds g a j c.kept) (JoinerHolds g b j c.kept) c.live (λ l x. joiner_live_lasts g a b up j c.kept l same x) h.live; opened = open_lasts more sent (Joiner j) c.opened h.opened }

  server_facts_last : (s : ℕ) (c : Cell ServerKept ServerLive) → ServerFacts g a sent s c → ServerFacts g b (more ++ sent) s c
  server_facts_last s c h = record { live = if_up (ServerHolds g a) (ServerHolds g b) c.live (λ l x s. shard_lasts g a b up s (l.shards s) (x s)) h.live; opened = open_lasts more sent (Server s) c.opened h.opened }

  replica_lasts : (r : ℕ) (c : Cell ReplicaKept (Unit {0})) → ReplicaFacts g a sent r c → ReplicaFacts g b (more ++ sent) r c
  replica_lasts r c h = record { kept = each_more (InsertsOf g a) (InsertsOf g b) c.kept.notes (note_lasts g a b up) h.kept; opened = open_lasts more sent (Replica r) c.opened h.opened }

grows_self : (n : Known) → Grows n n
grows_self n = record { values = λ s. begins_self (n.values s); pairs = λ j p m. m; drawn = λ x m. m }

module _ (g : Setting) (w : World) (drawn : List Insert) (holds : WorldHolds g w drawn) where
  abbrev pub now : Known
  now = known g w drawn

  -- ---- one cell is replaced, and packets are sent

  pub dispatcher_replaced : (s : ℕ) (c : Cell DispatcherKept DispatcherLive) (more : List Sent) → DispatcherFacts g now (more ++ w.sent) s c → ((x : Sent) → Mem x more → HoldsOf g now x.packet) → WorldHolds g (record w { dispatchers = set_at w.dispatchers s c; sent = more ++ w.sent }) drawn
  dispatcher_replaced s c more h p =
      let up = grows_self now in
      record {
        packets = λ x m. ⊎_elim (p x) (holds.packets x) (mem_split x more w.sent m);
        dispatchers = at_set_if (λ t. t < 2) (DispatcherFacts g now (more ++ w.sent)) w.dispatchers s c h (λ t lt ne. dispatcher_lasts g now now up more w.sent t (w.dispatchers t) (holds.dispatchers t lt));
        joiners = λ j i. joiner_lasts g now now up more w.sent j (w.joiners j) (λ x m e. m) (holds.joiners j i);
        servers = λ t lt. server_facts_last g now now up more w.sent t (w.servers t) (holds.servers t lt);
        replicas = λ t lt. replica_lasts g now now up more w.sent t (w.replicas t) (holds.replicas t lt);
        drawing = holds.drawing;
      }

  pub server_replaced : (s : ℕ) (c : Cell ServerKept ServerLive) (more : List Sent) → ServerFacts g now (more ++ w.sent) s c → ((x : Sent) → Mem x more → HoldsOf g now x.packet) → WorldHolds g (record w { servers = set_at w.servers s c; sent = more ++ w.sent }) drawn
  server_replaced s c more h p =
      let up = grows_self now in
      record {
        packets = λ x m. ⊎_elim (p x) (holds.packets x) (mem_split x more w.sent m);
        dispatchers = λ t lt. dispatcher_lasts g now now up more w.sent t (w.dispatchers t) (holds.dispatchers t lt);
        joiners = λ j i. joiner_lasts g now now up more w.sent j (w.joiners j) (λ x m e. m) (holds.joiners j i);
        servers = at_set_if (λ t. t < 2) (ServerFacts g now (more ++ w.sent)) w.servers s c h (λ t lt ne. server_facts_last g now now up more w.sent t (w.servers t) (holds.servers t lt));
        replicas = λ t lt. replica_lasts g now now up more w.sent t (w.replicas t) (holds.replicas t lt);
        drawing = holds.drawing;
      }

  -- the replicas' records have changed, and so what is decided
  module _ (r : ℕ) (c : Cell ReplicaKept (Unit {0})) (more : List Sent) where
    abbrev pub with_replica : World
    with_replica = record w { replicas = set_at w.replicas r c; sent = more ++ w.sent }

    pub replica_replaced : ((s : ℕ) → Begins (decided_in g w s) (decided_in g with_replica s)) → ReplicaFacts g now (more ++ w.sent) r c → ((x : Sent) → Mem x more → HoldsOf g now x.packet) → WorldHolds g with_replica drawn
    replica_replaced grow h p =
        let then_ : Known = known g with_replica drawn in
        let up : Grows now then_ = record { values = grow; pairs = λ j q m. m; drawn = λ x m. m } in
        record {
          packets = λ x m. packet_lasts g now then_ up x.packet (⊎_elim (p x) (holds.packets x) (mem_split x more w.sent m));
          dispatchers = λ t lt. dispatcher_lasts g now then_ up more w.sent t (w.dispatchers t) (holds.dispatchers t lt);
          joiners = λ j i. joiner_lasts g now then_ up more w.sent j (w.joiners j) (λ x m e. m) (holds.joiners j i);
          servers = λ t lt. server_facts_last g now then_ up more w.sent t (w.servers t) (holds.servers t lt);
          replicas = at_set_if (λ t. t < g.config.replicas) (ReplicaFacts g then_ (more ++ w.sent)) w.replicas r c (record { kept = each_more (InsertsOf g now) (InsertsOf g then_) c.kept.notes (note_lasts g now then_ up) h.kept; opened = h.opened }) (λ t lt ne. replica_lasts g now then_ up more w.sent t (w.replicas t) (holds.replicas t lt));
          drawing = record { joinable = holds.drawing.joinable; joiner = holds.drawing.joiner; epoch = holds.drawing.epoch; one_id = holds.drawing.one_id };
        }

  module _ (j : ℕ) (is_joiner : IsJoiner g j) (c : Cell JoinerKept JoinerLive) (more : List Sent) (new : List Insert) where
    abbrev pub with_joiner : World
    with_joiner = record w { joiners = set_at w.joiners j c; sent = more ++ w.sent }

    abbrev pub first_known : Known
    first_known = extended now j c.kept.pairs new

    pub joiner_replaced :
        (w.joiners j).kept.epoch ≤ c.kept.epoch → ((p : PairRec) → Mem p (w.joiners j).kept.pairs → Mem p c.kept.pairs) → ((x y : Insert) → Mem x new → Mem y new → x ≡ y) → Each (IsDrawing g now j c.kept.epoch) new →
        JoinerSound g first_known j c.kept → IfUp (JoinerHolds g first_known j c.kept) c.live → IfOpen (more ++ w.sent) (Joiner j) c.opened → ((x : Sent) → Mem x more → HoldsOf g first_known x.packet) →
        WorldHolds g with_joiner (new ++ drawn)
    joiner_replaced later has_all one draws kept live opened p =
        record {
          packets = λ x m. ⊎_elim (λ q. packet_lasts g first_known then_ same x.packet (p x q)) (λ q. packet_lasts g now then_ up x.packet (holds.packets x q)) (mem_split x more w.sent m);
          dispatchers = λ t lt. dispatcher_lasts g now then_ up more w.sent t (w.dispatchers t) (holds.dispatchers t lt);
          joiners = at_set_if (IsJoiner g) (JoinerFacts g then_ (more ++ w.sent)) w.joiners j c
              (record { kept = joiner_kept_lasts g first_known then_ same j c.kept kept; live = if_up (JoinerHolds g first_known j c.kept) (JoinerHolds g then_ j c.kept) c.live (λ l h. joiner_live_lasts g first_known then_ same j c.kept l (λ x m e. m) h) live; opened = opened })
              (λ i is ne. joiner_lasts g now then_ up more w.sent i (w.joiners i) (others i ne) (holds.joiners i is));
          servers = λ t lt. server_facts_last g now then_ up more w.sent t (w.servers t) (holds.servers t lt);
          replicas = λ t lt. replica_lasts g now then_ up more w.sent t (w.replicas t) (holds.replicas t lt);
          drawing = record {
            joinable = λ x m. ⊎_elim (λ q. (draw x q).joinable) (λ q. holds.drawing.joinable x q) (mem_split x new drawn m);
            joiner = λ x m. ⊎_elim (λ q. subst (IsJoiner g) (sym (draw x q).joiner) is_joiner) (λ q. holds.drawing.joiner x q) (mem_split x new drawn m);
            epoch = λ x m. ⊎_elim (λ q. new_epoch x q) (λ q. old_epoch x q) (mem_split x new drawn m);
            one_id = λ x y m o e. ⊎_elim
                (λ q. ⊎_elim (λ u. ap (λ (z : Insert). z.id) (one x y q u)) (λ u. absurd ((draw x q).unused y u (sym e))) (mem_split y new drawn o))
                (λ q. ⊎_elim (λ u. absurd ((draw y u).unused x q e)) (λ u. holds.drawing.one_id x y q u e) (mem_split y new drawn o))
                (mem_split x new drawn m);
          };
        }
      where
        then_ : Known
        then_ = known g with_joiner (new ++ drawn)

        up : Grows now then_
        up = record { values = λ s. begins_self (now.values s); pairs = at_set (λ m (d : Cell JoinerKept JoinerLive). (q : PairRec) → Mem q (w.joiners m).kept.pairs → Mem q d.kept.pairs) w.joiners j c has_all (λ m q h. h); drawn = λ x m. mem_right x new drawn m }

        same : Grows first_known then_
        same = record { values = λ s. begins_self (now.values s); pairs = λ m q h. both m q h; drawn = λ x m. m }
          where
            both : (m : ℕ) (q : PairRec) → Mem q (set_at (λ i. (w.joiners i).kept.pairs) j c.kept.pairs m) → Mem q (set_at w.joiners j c m).kept.pairs
            both m q = cond_both (m == j) c (w.joiners m) (λ (d : Cell JoinerKept JoinerLive). Mem q (cond (m == j) c.kept.pairs (w.joiners m).kept.pairs) → Mem q d.kept.pairs) (λ e h. subst (λ b. Mem q (cond b c.kept.pairs (w.joiners m).kept.pairs)) e h) (λ e h. subst (λ b. Mem q (cond b c.kept.pairs (w.joiners m).kept.pairs)) e h)

        draw : (x : Insert) → Mem x new → IsDrawing g now j c.kept.epoch x
        draw x m = each_at (IsDrawing g now j c.kept.epoch) new draws x m

        others : (i : ℕ) → i ≢ j → (x : Insert) → Mem x (new ++ drawn) → x.token.joiner ≡ i → Mem x drawn
        others i ne x m e = ⊎_elim (λ q. absurd (ne (sym e ∙ (draw x q).joiner))) (λ q. q) (mem_split x new drawn m)

        new_epoch : (x : Insert) → Mem x new → x.token.epoch ≤ (set_at w.joiners j c x.token.joiner).kept.epoch
        new_epoch x m = subst (λ i. x.token.epoch ≤ (set_at w.joiners j c i).kept.epoch) (sym (draw x m).joiner) (cond_both (j == j) c (w.joiners j) (λ (d : Cell JoinerKept JoinerLive). x.token.epoch ≤ d.kept.epoch) (λ _. let q = (draw x m).epoch in omega arith) (λ f. absurd (clash (j == j) (eq-eqb j j refl) f)))
          where
            clash : (t : Bool) → t ≡ true → t ≡ false → ⊥
            clash t u v = let z = sym u ∙ v in cc

        old_epoch : (x : Insert) → Mem x drawn → x.token.epoch ≤ (set_at w.joiners j c x.token.joiner).kept.epoch
        old_epoch x m = let q = holds.drawing.epoch x m in at_set (λ i (d : Cell JoinerKept JoinerLive). x.token.joiner ≡ i → x.token.epoch ≤ d.kept.epoch) w.joiners j c (λ e. let r : (w.joiners x.token.joiner).kept.epoch ≤ c.kept.epoch = subst (λ i. (w.joiners i).kept.epoch ≤ c.kept.epoch) (sym e) later in omega arith) (λ i e. subst (λ t. x.token.epoch ≤ (w.joiners t).kept.epoch) e q) x.token.joiner refl

  -- ---- what a node's open turn keeps

  pub input_holds : (n : Node) (i : Input) → WasSent w.sent n i → HoldsOfInput g now i
  input_holds n (Deliver from p) m = holds.packets _ m
  input_holds n _ m = m

  turn_holds : (n : Node) (o : Option Input) → IfOpen w.sent n o → (i : Input) → (o ≡ Some i) ⊎ (i ≡ Own) → HoldsOfInput g now i
  turn_holds n o h i k = grind (arith, input_holds)

  pub dispatcher_row_keeps : Checked g → (s : ℕ) → s < 2 → DispatcherKeeps g now (w.dispatchers s).kept (dispatcher_row g s (w.dispatchers s))
  dispatcher_row_keeps c s lt =
      let k = (w.dispatchers s).kept in
      let f = holds.dispatchers s lt in
      row_by dispatcher_start (dispatcher_turn g s) k (w.dispatchers s).live (w.dispatchers s).opened (DispatcherKeeps g now k) (dispatcher_start_keeps g now k f.kept)
      (λ l up i is. dispatcher_keeps g now s k l i c f.kept (subst (IfUp (DispatcherHolds g now k)) up f.live) (turn_holds (Dispatcher s) (w.dispatchers s).opened f.opened i is))

  pub joiner_row_keeps : Checked g → (j : ℕ) → IsJoiner g j → JoinerKeeps g now j (w.joiners j).kept (joiner_row g j (w.joiners j))
  joiner_row_keeps c j is =
      let k = (w.joiners j).kept in
      let f = holds.joiners j is in
      let epochs = λ (m : ℕ). (w.joiners m).kept.epoch in
      row_by joiner_start (joiner_turn g j) k (w.joiners j).live (w.joiners j).opened (JoinerKeeps g now j k) (joiner_start_keeps g now epochs j k refl refl holds.drawing f.kept)
      (λ l up i at. joiner_keeps g now epochs j k l c is refl holds.drawing f.kept (subst (IfUp (JoinerHolds g now j k)) up f.live) i (turn_holds (Joiner j) (w.joiners j).opened f.opened i at))

  pub server_row_keeps : ((l : ServerLive) (i : Input) → (s : ℕ) → s < 2 → (w.servers s).live ≡ Some l → (w.servers s).opened ≡ Some i → IsChosenNow g now l i) → (s : ℕ) → s < 2 → ServerKeeps g now (server_row g s (w.servers s))
  server_row_keeps chosen s lt = up (w.servers s).live refl (holds.servers s lt).live (w.servers s).opened refl (holds.servers s lt).opened
    where
      up : (l : Option ServerLive) → (w.servers s).live ≡ l → IfUp (ServerHolds g now) l → (o : Option Input) → (w.servers s).opened ≡ o → IfOpen w.sent (Server s) o → ServerKeeps g now (server_row g s (record { kept = (w.servers s).kept; live = l; opened = o }))
      up None e h o u i = server_start_keeps g now (w.servers s).kept
      up (Some l) e h None u i = server_keeps g now s (w.servers s).kept l h Own tt (λ at b r p v x. absurd (cc))
      up (Some l) e h (Some x) u i = server_keeps g now s (w.servers s).kept l h x (input_holds (Server s) x i) (chosen l x s lt e u)

  pub replica_row_keeps : (r : ℕ) → r < g.config.replicas → ReplicaKeeps g now (w.replicas r).kept (replica_row (w.replicas r))
  replica_row_keeps r lt =
      let f = holds.replicas r lt in
      row_by replica_start (λ k l i. replica_turn k i) (w.replicas r).kept (w.replicas r).live (w.replicas r).opened (ReplicaKeeps g now (w.replicas r).kept) (record { kept = f.kept; packets = tt })
      (λ _ _ i is. replica_keeps g now (w.replicas r).kept i f.kept (turn_holds (Replica r) (w.replicas r).opened f.opened i is))
