-- A ballot is drawn for one place alone.
use Rattle.std.proofs.Common.{◌≡◌, ◌⊎◌, inl, inr, ⊎_elim, ℕ, zero, suc, ◌<◌, ◌≤◌, List, [], ◌∷◌, ◌++◌, Some, None, refl, sym, ap, ◌∙◌, subst, arith, Option}
use Rattle.photon_model.proofs.Words.{Ballot, Insert, Batch, Phase, on_promise, on_accepted, Mem, Each, set_at, Setting, shard, Packet, Prepare, Accept, Place, Node, Dispatcher, Server, Replica, Joiner, To, Only, Sent, Input, Own, Note, Out, idle, land, ServerKept, ServerLive, ShardState, Proposal, land_server, to_from, to_replicas, replies, owns, promised, accepted, server_turn, ReplicaKept, each_at, mem_left, mem_right, mem_split, at_set, at_set_if, some_same, none_some, Addressed, World, Entry, Begin, End, Stop, Disks, begun, ended, stopped, dispatcher_row, joiner_row, server_row, replica_row, sends, after, world_after, May, IsRun, opening, Cell}
use Rattle.photon_model.proofs.ServerRows.{next_at, current_at, replicas_each, reply_each, replies_each, tick_each, every_row}
use Rattle.photon_model.specs.Claims.{HasSent}
use Rattle.photon_model.specs.Alone.{Prepared, BallotsAlone}
use Rattle.photon_model.proofs.Claiming.{addressed_sent}
use Rattle.photon_model.proofs.Finding.{sent_addressed}
use Rattle.photon_model.proofs.Worlds.{landed_either}
use Rattle.photon_model.proofs.Agreeing.{ArePlain, dispatcher_row_plain, joiner_row_plain}

-- a shard's proposal was prepared
abbrev Stands : List Sent → ℕ → ShardState → Option Proposal → Type 0
Stands sent t st None = Unit {0}
Stands sent t st (Some p) = Prepared sent (next_at t st) p.ballot

-- ---- a server's rows: what they prepare is new or was prepared

module _ (g : Setting) (site : ℕ) (k : ServerKept) (l : ServerLive) (sent : List Sent) where
  abbrev drawn : Ballot
  drawn = record { round = suc l.round; epoch = k.epoch; site = site }

  abbrev IsDraw : Option Place → Place → Ballot → Type 0
  IsDraw None at b = ⊥
  IsDraw (Some q) at b = (at ≡ q) × (b ≡ drawn)

  abbrev Fair : Option Place → Packet → Type 0
  Fair q (Prepare at b) = Prepared sent at b ⊎ IsDraw q at b
  Fair q (Accept at b v) = Prepared sent at b
  Fair q _ = Unit {0}

  abbrev AreFair : Option Place → List (To × Packet) → Type 0
  AreFair q ps = Each (λ (a : To × Packet). Fair q a.1) ps

  abbrev NowStands : List (To × Packet) → ℕ → ShardState → Option Proposal → Type 0
  NowStands ps t st None = Unit {0}
  NowStands ps t st (Some p) = Prepared sent (next_at t st) p.ballot ⊎ ((a : To × Packet) × Mem a ps × (a.1 ≡ Prepare (next_at t st) p.ballot))

  record Fairly (o : Out ServerLive) : Type 0 where
    pub silent : o.note ≡ None
    pub draw : Option Place
    pub packets : AreFair draw o.packets
    pub round : l.round ≤ o.live.round
    pub higher_ : (q : Place) → draw ≡ Some q → l.round < o.live.round
    pub stands : (t : ℕ) → NowStands o.packets t (o.live.shards t) (o.live.shards t).proposal

  module _ (holds : (t : ℕ) → Stands sent t (l.shards t) (l.shards t).proposal) where
    to_now : (ps : List (To × Packet)) (t : ℕ) (st : ShardState) (o : Option Proposal) → Stands sent t st o → NowStands ps t st o
    to_now ps t st o h = grind arith

    -- nothing is drawn
    still : (o : Out ServerLive) → o.note ≡ None → AreFair None o.packets → l.round ≤ o.live.round → ((t : ℕ) → Stands sent t (o.live.shards t) (o.live.shards t).proposal) → Fairly o
    still o e p r s = record { silent = e; draw = None; packets = p; round = r; higher_ = λ q e. none_some q e; stands = λ t. to_now o.packets t (o.live.shards t) (o.live.shards t).proposal (s t) }

    sets : (s : ℕ) (st : ShardState) → Stands sent s st st.proposal → (t : ℕ) → Stands sent t (set_at l.shards s st t) (set_at l.shards s st t).proposal
    sets s st h = at_set (λ t (u : ShardState). Stands sent t u u.proposal) l.shards s st h holds

    stood : (s : ℕ) (p : Proposal) → (l.shards s).proposal ≡ Some p → Prepared sent (next_at s (l.shards s)) p.ballot
    stood s p e = subst (Stands sent s (l.shards s)) e (holds s)

    replies_fair : (vs : List Batch) (xs : List Insert) → AreFair None (replies g site vs xs)
    replies_fair vs xs = replies_each g site (λ (a : To × Packet). Fair None a.1) vs xs (λ x a m e t. tt)

    -- with a replica, what is sent to each is sent
    first_sent : (r m : ℕ) (p : Packet) → 0 < m → (a : To × Packet) × Mem a (to_from r m p) × (a.1 ≡ p)
    first_sent r zero p lt = absurd (omega arith)
    first_sent r (suc m) p lt = ((Only (Replica r), p), inl refl, refl)

    draw_fair : 0 < g.config.replicas → (s : ℕ) → Fairly (owns g site k l (Some s))
    draw_fair some s =
        record {
          silent = refl;
          draw = Some (next_at s (l.shards s));
          packets = replicas_each g site (λ (a : To × Packet). Fair (Some (next_at s (l.shards s))) a.1) (Prepare (next_at s (l.shards s)) drawn) (λ i lt. inr (refl, refl));
          round = omega arith;
          higher_ = λ q e. omega arith;
          stands = at_set (λ t (u : ShardState). NowStands asked t u u.proposal) l.shards s _ (inr (first_sent 0 g.config.replicas (Prepare (next_at s (l.shards s)) drawn) some)) (λ t. to_now asked t (l.shards t) (l.shards t).proposal (holds t));
        }
      where
        asked : List (To × Packet)
        asked = to_replicas g.config.replicas (Prepare (next_at s (l.shards s)) drawn)

    promise_fair : (at : Place) (p : Proposal) → (l.shards at.shard).proposal ≡ Some p → at ≡ next_at at.shard (l.shards at.shard) → (t : Phase Batch × Option Batch) → Fairly (promised g site k l at (l.shards at.shard) p t)
    promise_fair at p e here (phase, None) = still _ refl tt (omega arith) (sets at.shard _ (stood at.shard p e))
    promise_fair at p e here (phase, Some v) =
        still _ refl (replicas_each g site (λ (a : To × Packet). Fair None a.1) (Accept at p.ballot v) (λ i lt. subst (λ (q : Place). Prepared sent q p.ballot) (sym here) (stood at.shard p e))) (omega arith) (sets at.shard _ (stood at.shard p e))

    accepted_fair : (at : Place) (p : Proposal) → (l.shards at.shard).proposal ≡ Some p → (phase : Phase Batch) (o : Option Batch) → Fairly (accepted g site k l at (l.shards at.shard) p phase o)
    accepted_fair at p e phase o = grind (arith, replies_fair)

    turn_fair : 0 < g.config.replicas → (i : Input) → Fairly (server_turn g site k l i)
    turn_fair some =
        every_row g site k l (λ i o. Fairly o)
        (record {
          idles = λ i. still (idle l) refl tt (omega arith) holds;
          ticks = still _ refl (tick_each g site (λ (a : To × Packet). Fair None a.1) k l (λ s p marks best e f i lt. inl (stood s p e)) (λ s p v marks e f i lt. stood s p e)) (omega arith) holds;
          draws = λ s may. draw_fair some s;
          answers = λ from x a e. still _ refl (reply_each g site (λ (b : To × Packet). Fair None b.1) x a (λ t. tt)) (omega arith) holds;
          queues = λ from x. still _ refl tt (omega arith) (sets (shard g x.id) _ (holds (shard g x.id)));
          learns_of = λ from at v e. still _ refl (replies_fair ((l.shards at.shard).learned ++ v ∷ []) (l.shards at.shard).queue) (omega arith) (sets at.shard _ tt);
          promises = λ r at b o p e c. promise_fair at p e (current_at g at b (l.shards at.shard) p c).0 (on_promise p.own p.phase r o);
          accepts = λ r at b p e c. accepted_fair at p e (on_accepted p.phase r).0 (on_accepted p.phase r).1;
          refuses = λ r at b above p e c. still _ refl tt (omega arith) (sets at.shard _ tt);
        })

-- ---- replicas say nothing of the kind

abbrev IsAnswer : Packet → Type 0
IsAnswer (Prepare at b) = ⊥
IsAnswer (Accept at b v) = ⊥
IsAnswer _ = Unit {0}

abbrev AreAnswers : List (To × Packet) → Type 0
AreAnswers ps = Each (λ (a : To × Packet). IsAnswer a.1) ps

abbrev Answers : Out (Unit {0}) → Type 0
Answers o = AreAnswers o.packets

plain_answers : (ps : List (To × Packet)) → ArePlain ps → AreAnswers ps
plain_answers [] h = tt
plain_answers (p ∷ ps) h = grind (arith, plain_answers ps h.1)

replica_answers : (c : Cell ReplicaKept (Unit {0})) → Answers (replica_row c)
replica_answers c = grind arith

-- ---- the world

record Drawn (w : World) : Type 0 where
  pub alone : BallotsAlone w.sent
  pub owned : (at : Place) (b : Ballot) → Prepared w.sent at b → b.epoch ≤ (w.servers b.site).kept.epoch
  pub rounds : (s : ℕ) (l : ServerLive) → (w.servers s).live ≡ Some l → (at : Place) (b : Ballot) → Prepared w.sent at b → b.site ≡ s → b.epoch ≡ (w.servers s).kept.epoch → b.round ≤ l.round
  pub stands : (s : ℕ) (l : ServerLive) → (w.servers s).live ≡ Some l → (t : ℕ) → Stands w.sent t (l.shards t) (l.shards t).proposal

module _ (g : Setting) (some : 0 < g.config.replicas) (w : World) (h : Drawn w) where
  stands_more : (new : List Sent) (t : ℕ) (st : ShardState) (o : Option Proposal) → Stands w.sent t st o → Stands (new ++ w.sent) t st o
  stands_more new t st o x = grind (arith, mem_right)

  more : (new : List Sent) (p : Packet) → HasSent w.sent p → HasSent (new ++ w.sent) p
  more new p x = (x.0, mem_right x.0 new w.sent x.1, x.2)

  -- answers alone are sent, and the servers stay
  answered : (from : Node) (as_ : List (To × Packet)) (ps : List (Node × Packet)) (v : World) → Addressed g as_ ps → AreAnswers as_ → (v.sent ≡ sends from ps ++ w.sent) → (v.servers ≡ w.servers) → Drawn v
  answered from as_ ps v ad an es ev =
      subst (λ (z : List Sent × (ℕ → Cell ServerKept ServerLive)). Drawn (record { dispatchers = v.dispatchers; servers = z.1; replicas = v.replicas; joiners = v.joiners; sent = z.0 })) (λ i. (sym es i, sym ev i))
      (record {
        alone = ((λ at place b x y. h.alone.0 at place b (old (Prepare at b) (λ q. q) x) (old (Prepare place b) (λ q. q) y)), (λ at b v x. more (sends from ps) (Prepare at b) (h.alone.1 at b v (old (Accept at b v) (λ q. q) x))));
        owned = λ at b x. h.owned at b (old (Prepare at b) (λ q. q) x);
        rounds = λ s l e at b x. h.rounds s l e at b (old (Prepare at b) (λ q. q) x);
        stands = λ s l e t. stands_more (sends from ps) t (l.shards t) (l.shards t).proposal (h.stands s l e t);
      })
    where
      old : (p : Packet) → (IsAnswer p → ⊥) → HasSent (sends from ps ++ w.sent) p → HasSent w.sent p
      old p no_answer x =
          ⊎_elim
          (λ m. let a = sent_addressed g from as_ ps ad x.0 m in absurd (no_answer (subst IsAnswer (a.2 ∙ x.2) (each_at (λ (z : To × Packet). IsAnswer z.1) as_ an a.0 a.1))))
          (λ m. (x.0, m, x.2))
          (mem_split x.0 (sends from ps) w.sent x.1)

  -- a server's cell is replaced, and nothing is sent: it is as it was, or down with an epoch no lower
  server_moved : (s : ℕ) (c : Cell ServerKept ServerLive) → (w.servers s).kept.epoch ≤ c.kept.epoch → ((c.live ≡ None) ⊎ ((c.live ≡ (w.servers s).live) × (c.kept ≡ (w.servers s).kept))) → Drawn (record w { servers = set_at w.servers s c })
  server_moved s c le how =
      record {
        alone = h.alone;
        owned = λ at b x. let q = h.owned at b x in at_set (λ t (d : Cell ServerKept ServerLive). b.site ≡ t → b.epoch ≤ d.kept.epoch) w.servers s c (λ e. let r : (w.servers b.site).kept.epoch ≤ c.kept.epoch = subst (λ t. (w.servers t).kept.epoch ≤ c.kept.epoch) (sym e) le in omega arith) (λ t e. subst (λ y. b.epoch ≤ (w.servers y).kept.epoch) e q) b.site refl;
        rounds = λ t. at_set (λ t (d : Cell ServerKept ServerLive). (l : ServerLive) → d.live ≡ Some l → (at : Place) (b : Ballot) → Prepared w.sent at b → b.site ≡ t → b.epoch ≡ d.kept.epoch → b.round ≤ l.round) w.servers s c
            (λ l e at b x y z. ⊎_elim (λ n. none_some l (sym n ∙ e)) (λ q. h.rounds s l (sym q.0 ∙ e) at b x y (z ∙ ap (λ (k : ServerKept). k.epoch) q.1)) how) (λ t l e. h.rounds t l e) t;
        stands = λ t. at_set (λ t (d : Cell ServerKept ServerLive). (l : ServerLive) → d.live ≡ Some l → (u : ℕ) → Stands w.sent u (l.shards u) (l.shards u).proposal) w.servers s c (λ l e. ⊎_elim (λ n. none_some l (sym n ∙ e)) (λ q. h.stands s l (sym q.0 ∙ e)) how) (λ t l e. h.stands t l e) t;
      }

  -- a server that starts
  server_started : (s : ℕ) (l : ServerLive) (ps : List (Node × Packet)) → Addressed g [] ps → ((t : ℕ) → (l.shards t).proposal ≡ None) → Drawn (record w { servers = set_at w.servers s (record { kept = record { epoch = suc (w.servers s).kept.epoch }; live = Some l; opened = None }); sent = sends (Server s) ps ++ w.sent })
  server_started s l ps ad none =
      record {
        alone = v.alone;
        owned = λ at b x. let q = h.owned at b (old at b x) in at_set (λ t (d : Cell ServerKept ServerLive). b.site ≡ t → b.epoch ≤ d.kept.epoch) w.servers s _ (λ e. let r : (w.servers b.site).kept.epoch ≡ (w.servers s).kept.epoch = ap (λ t. (w.servers t).kept.epoch) e in omega arith) (λ t e. subst (λ y. b.epoch ≤ (w.servers y).kept.epoch) e q) b.site refl;
        rounds = λ t. at_set (λ t (d : Cell ServerKept ServerLive). (m : ServerLive) → d.live ≡ Some m → (at : Place) (b : Ballot) → Prepared (sends (Server s) ps ++ w.sent) at b → b.site ≡ t → b.epoch ≡ d.kept.epoch → b.round ≤ m.round) w.servers s _
            (λ m e at b x y z. let q = h.owned at b (old at b x) in let r : (w.servers b.site).kept.epoch ≡ (w.servers s).kept.epoch = ap (λ t. (w.servers t).kept.epoch) y in absurd (omega arith)) (λ t m e at b x. h.rounds t m e at b (old at b x)) t;
        stands = λ t. grind arith;
      }
    where
      v : Drawn (record w { sent = sends (Server s) ps ++ w.sent })
      v = answered (Server s) [] ps (record w { sent = sends (Server s) ps ++ w.sent }) ad tt refl refl

      old : (at : Place) (b : Ballot) → Prepared (sends (Server s) ps ++ w.sent) at b → Prepared w.sent at b
      old at b x = ⊎_elim (λ m. absurd (let a = sent_addressed g (Server s) [] ps ad x.0 m in a.1)) (λ m. (x.0, m, x.2)) (mem_split x.0 (sends (Server s) ps) w.sent x.1)

  -- a server's turn while it is up
  server_turned : (s : ℕ) (l : ServerLive) → (w.servers s).live ≡ Some l → (o : Out ServerLive) → Fairly g s (w.servers s).kept l w.sent o → (ps : List (Node × Packet)) → Addressed g o.packets ps → Drawn (record w { servers = set_at w.servers s (record { kept = (w.servers s).kept; live = Some o.live; opened = None }); sent = sends (Server s) ps ++ w.sent })
  server_turned s l up o f ps ad =
      record {
        alone = ((λ at place b x y. ⊎_elim (λ p. ⊎_elim (λ q. h.alone.0 at place b p q) (λ q. absurd (too_high at b p place q)) (was place b y)) (λ p. ⊎_elim (λ q. absurd (too_high place b q at p)) (λ q. same_draw f.draw at place b p q) (was place b y)) (was at b x)), (λ at b v x. more (sends (Server s) ps) (Prepare at b) (was_accept at b v x)));
        owned = λ at b x. at_set (λ t (d : Cell ServerKept ServerLive). b.site ≡ t → b.epoch ≤ d.kept.epoch) w.servers s _ (λ e. ⊎_elim (λ p. let q = h.owned at b p in let r : (w.servers b.site).kept.epoch ≡ (w.servers s).kept.epoch = ap (λ t. (w.servers t).kept.epoch) e in omega arith) (λ p. let r : b.epoch ≡ (w.servers s).kept.epoch = ap (λ (z : Ballot). z.epoch) (is_drawn f.draw at b p) in omega arith) (was at b x))
            (λ t e. ⊎_elim (λ p. subst (λ y. b.epoch ≤ (w.servers y).kept.epoch) e (h.owned at b p)) (λ p. let d = is_drawn f.draw at b p in let r : b.epoch ≡ (w.servers s).kept.epoch = ap (λ (z : Ballot). z.epoch) d in let y : t ≡ s = sym e ∙ ap (λ (z : Ballot). z.site) d in subst (λ z. b.epoch ≤ (w.servers z).kept.epoch) (sym y) (omega arith)) (was at b x)) b.site refl;
        rounds = λ t. at_set_if (λ _. Unit {0}) (λ t (d : Cell ServerKept ServerLive). (m : ServerLive) → d.live ≡ Some m → (at : Place) (b : Ballot) → Prepared (sends (Server s) ps ++ w.sent) at b → b.site ≡ t → b.epoch ≡ d.kept.epoch → b.round ≤ m.round) w.servers s _
            (λ m e at b x y z. subst (λ (q : ServerLive). b.round ≤ q.round) (some_same o.live m e) (⊎_elim (λ p. let q = h.rounds s l up at b p y z in let r = f.round in omega arith) (λ p. let r : b.round ≡ suc l.round = ap (λ (q : Ballot). q.round) (is_drawn f.draw at b p) in let u = rose f.draw at b p refl in omega arith) (was at b x)))
            (λ t _ ne m e at b x y z. ⊎_elim (λ p. h.rounds t m e at b p y z) (λ p. absurd (ne (sym y ∙ ap (λ (q : Ballot). q.site) (is_drawn f.draw at b p)))) (was at b x)) t tt;
        stands = λ t. at_set (λ t (d : Cell ServerKept ServerLive). (m : ServerLive) → d.live ≡ Some m → (u : ℕ) → Stands (sends (Server s) ps ++ w.sent) u (m.shards u) (m.shards u).proposal) w.servers s _
            (λ m e u. subst (λ (z : ServerLive). Stands (sends (Server s) ps ++ w.sent) u (z.shards u) (z.shards u).proposal) (some_same o.live m e) (now_sent u (o.live.shards u) (o.live.shards u).proposal (f.stands u)))
            (λ t m e u. stands_more (sends (Server s) ps) u (m.shards u) (m.shards u).proposal (h.stands t m e u)) t;
      }
    where
      k : ServerKept
      k = (w.servers s).kept

      is_drawn : (q : Option Place) (at : Place) (b : Ballot) → IsDraw g s k l w.sent q at b → b ≡ drawn g s k l w.sent
      is_drawn q at b x = grind arith

      same_draw : (q : Option Place) (at place : Place) (b : Ballot) → IsDraw g s k l w.sent q at b → IsDraw g s k l w.sent q place b → at ≡ place
      same_draw h at place b x y = grind arith

      rose : (q : Option Place) (at : Place) (b : Ballot) → IsDraw g s k l w.sent q at b → f.draw ≡ q → l.round < o.live.round
      rose None at b x e = absurd x
      rose (Some q) at b x e = f.higher_ q e

      was : (at : Place) (b : Ballot) → Prepared (sends (Server s) ps ++ w.sent) at b → Prepared w.sent at b ⊎ IsDraw g s k l w.sent f.draw at b
      was at b x =
          ⊎_elim
          (λ m. let a = sent_addressed g (Server s) o.packets ps ad x.0 m in subst (Fair g s k l w.sent f.draw) (a.2 ∙ x.2) (each_at (λ (z : To × Packet). Fair g s k l w.sent f.draw z.1) o.packets f.packets a.0 a.1))
          (λ m. inl (x.0, m, x.2))
          (mem_split x.0 (sends (Server s) ps) w.sent x.1)

      was_accept : (at : Place) (b : Ballot) (v : Batch) → HasSent (sends (Server s) ps ++ w.sent) (Accept at b v) → Prepared w.sent at b
      was_accept at b v x =
          ⊎_elim
          (λ m. let a = sent_addressed g (Server s) o.packets ps ad x.0 m in subst (Fair g s k l w.sent f.draw) (a.2 ∙ x.2) (each_at (λ (z : To × Packet). Fair g s k l w.sent f.draw z.1) o.packets f.packets a.0 a.1))
          (λ m. h.alone.1 at b v (x.0, m, x.2))
          (mem_split x.0 (sends (Server s) ps) w.sent x.1)

      too_high : (at : Place) (b : Ballot) → Prepared w.sent at b → (place : Place) → IsDraw g s k l w.sent f.draw place b → ⊥
      too_high at b p place x =
          let d = is_drawn f.draw place b x in
          let q = h.rounds s l up at b p (ap (λ (z : Ballot). z.site) d) (ap (λ (z : Ballot). z.epoch) d) in
          let r : b.round ≡ suc l.round = ap (λ (z : Ballot). z.round) d in omega arith

      now_sent : (u : ℕ) (st : ShardState) (q : Option Proposal) → NowStands g s k l w.sent o.packets u st q → Stands (sends (Server s) ps ++ w.sent) u st q
      now_sent u st None x = x
      now_sent u st (Some p) x = ⊎_elim (λ y. more (sends (Server s) ps) (Prepare (next_at u st) p.ballot) y) (λ (y : (a : To × Packet) × Mem a o.packets × (a.1 ≡ Prepare (next_at u st) p.ballot)). let z = addressed_sent g (Server s) o.packets ps ad y.0 y.1 in (z.0, mem_left z.0 (sends (Server s) ps) w.sent z.1, z.2 ∙ y.2)) x

  server_ended : (s : ℕ) (made : Option Note) (ps : List (Node × Packet)) (kept : ℕ) → Addressed g (server_row g s (w.servers s)).packets ps → made ≡ (server_row g s (w.servers s)).note → Drawn (after g w (End (Server s) made ps kept))
  server_ended s made ps kept ad e = subst (λ (q : Option Note). Drawn (after g w (End (Server s) q ps kept))) (sym e) (go (w.servers s).live refl (w.servers s).opened ad)
    where
      abbrev_k : ServerKept
      abbrev_k = (w.servers s).kept

      row_of : Option ServerLive → Option Input → Out ServerLive
      row_of l o = server_row g s (record { kept = (w.servers s).kept; live = l; opened = o })

      turned : (l : ServerLive) → (w.servers s).live ≡ Some l → (i : Input) → Addressed g (server_turn g s (w.servers s).kept l i).packets ps → Drawn (record w { servers = set_at w.servers s (ended land_server (w.servers s) (server_turn g s (w.servers s).kept l i).note (server_turn g s (w.servers s).kept l i).live); sent = sends (Server s) ps ++ w.sent })
      turned l up i a =
          subst (λ (q : Option Note). Drawn (record w { servers = set_at w.servers s (ended land_server (w.servers s) q (server_turn g s (w.servers s).kept l i).live); sent = sends (Server s) ps ++ w.sent })) (sym (turn_fair g s (w.servers s).kept l w.sent (h.stands s l up) some i).silent)
          (server_turned s l up (server_turn g s (w.servers s).kept l i) (turn_fair g s (w.servers s).kept l w.sent (h.stands s l up) some i) ps a)

      go : (l : Option ServerLive) → (w.servers s).live ≡ l → (o : Option Input) → Addressed g (row_of l o).packets ps → Drawn (record w { servers = set_at w.servers s (ended land_server (w.servers s) (row_of l o).note (row_of l o).live); sent = sends (Server s) ps ++ w.sent })
      go None up o a = server_started s _ ps a (λ t. refl)
      go (Some l) up None a = turned l up Own a
      go (Some l) up (Some i) a = turned l up i a

  drawn_after : (e : Entry) → May g w e → Drawn (after g w e)
  drawn_after (Begin (Server s) i) m = server_moved s (begun (w.servers s) i) (omega arith) (inr (refl, refl))
  drawn_after (End (Dispatcher s) made ps kept) m = answered (Dispatcher s) (dispatcher_row g s (w.dispatchers s)).packets ps (after g w (End (Dispatcher s) made ps kept)) m.1.2 (plain_answers (dispatcher_row g s (w.dispatchers s)).packets (dispatcher_row_plain g s (w.dispatchers s))) refl refl
  drawn_after (End (Joiner j) made ps kept) m = answered (Joiner j) (joiner_row g j (w.joiners j)).packets ps (after g w (End (Joiner j) made ps kept)) m.1.2 (plain_answers (joiner_row g j (w.joiners j)).packets (joiner_row_plain g j (w.joiners j))) refl refl
  drawn_after (End (Replica r) made ps kept) m = answered (Replica r) (replica_row (w.replicas r)).packets ps (after g w (End (Replica r) made ps kept)) m.1.2 (replica_answers (w.replicas r)) refl refl
  drawn_after (End (Server s) made ps kept) m = server_ended s made ps kept m.1.2 m.1.1
  drawn_after (Stop (Server s) o) m = server_moved s (stopped land_server (w.servers s) o) (epoch_up m.1.1) (inl refl)
    where
      row_of : Option ServerLive → Option Input → Out ServerLive
      row_of l i = server_row g s (record { kept = (w.servers s).kept; live = l; opened = i })

      row_up : (l : Option ServerLive) → (w.servers s).live ≡ l → (i : Option Input) → (w.servers s).kept.epoch ≤ (land land_server (row_of l i).note (w.servers s).kept).epoch
      row_up None e i = omega arith
      row_up (Some l) e None = subst (λ (q : Option Note). (w.servers s).kept.epoch ≤ (land land_server q (w.servers s).kept).epoch) (sym (turn_fair g s (w.servers s).kept l w.sent (h.stands s l e) some Own).silent) (omega arith)
      row_up (Some l) e (Some i) = subst (λ (q : Option Note). (w.servers s).kept.epoch ≤ (land land_server q (w.servers s).kept).epoch) (sym (turn_fair g s (w.servers s).kept l w.sent (h.stands s l e) some i).silent) (omega arith)

      epoch_up : (o ≡ None) ⊎ (o ≡ (server_row g s (w.servers s)).note) → (w.servers s).kept.epoch ≤ (land land_server o (w.servers s).kept).epoch
      epoch_up how = landed_either (λ (k : ServerKept). (w.servers s).kept.epoch ≤ k.epoch) land_server (w.servers s).kept _ o how (omega arith) (row_up (w.servers s).live refl (w.servers s).opened)
  drawn_after _ m = record { alone = h.alone; owned = h.owned; rounds = h.rounds; stands = h.stands }

drawn_run : (g : Setting) → 0 < g.config.replicas → (es : List Entry) (w : World) → Drawn w → IsRun g w es → Drawn (world_after g w es)
drawn_run g some [] w h r = h
drawn_run g some (e ∷ es) w h r = drawn_run g some es (after g w e) (drawn_after g some w h e r.0) r.1

pub every_ballot_alone : (g : Setting) → 0 < g.config.replicas → (d : Disks) (es : List Entry) → IsRun g (opening d) es → BallotsAlone (world_after g (opening d) es).sent
every_ballot_alone g some d es r =
    (drawn_run g some es (opening d)
    (record { alone = ((λ at place b x. absurd x.1), (λ at b v x. absurd x.1)); owned = λ at b x. absurd x.1; rounds = λ s l e. none_some l e; stands = λ s l e. none_some l e })
    r).alone
