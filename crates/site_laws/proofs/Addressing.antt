-- Rows send to nodes of the setting alone.
use Rattle.std.proofs.Common.{◌≡◌, ℕ, ◌+◌, ◌<◌, true, List, [], ◌∷◌, ◌++◌, Option, Some, subst, arith}
use Rattle.std.specs.Prelude.{nat_lt, ⊤}
use Rattle.site_laws.proofs.Words.{cond_both, Each, at, Insert, Batch, Answer, Place, Phase, on_promise, on_accepted, Packet, Node, Dispatcher, Server, Replica, Joiner, To, Only, AnyJoiner, Input, Deliver, Setting, first_joiner, site_of_joiner, IsNode, IsTo, Addressed, Out, DispatcherKept, DispatcherLive, JoinerKept, JoinerLive, ServerKept, ServerLive, ShardState, Proposal, dispatcher_turn, joiner_turn, server_turn, to_replicas, is_own_joiner, replies, promised, accepted, each_join, each_packet, replicas_each, reply_each, replies_each, tick_each, every_row, row_of, KeptOf, LiveOf, rows_of}
use Rattle.turn_defs.specs.declared.packet.Packet.TheVariants as packet

module _ (g : Setting) where
  -- whoever it may go to is a node of the setting
  abbrev pub GoesRight : To × Packet → Type 0
  GoesRight a = (m : Node) → IsTo g a.0 m → IsNode g m

  abbrev pub SendsRight : {L : Type 0} → Out L → Type 0
  SendsRight o = Each GoesRight o.packets

  only : (n : Node) (p : Packet) → IsNode g n → GoesRight (Only n, p)
  only n p is m e = subst (IsNode g) e is

  any : (site : ℕ) (p : Packet) → GoesRight (AnyJoiner site, p)
  any site p h e = grind arith

  dispatcher_right : (site : ℕ) (k : DispatcherKept) (l : DispatcherLive) (i : Input) → SendsRight (dispatcher_turn g site k l i)
  dispatcher_right site k l = each_join g site k l GoesRight (λ p c. any site (packet.Join p c))

  joiner_right : (n : ℕ) (k : JoinerKept) (l : JoinerLive) (i : Input) → SendsRight (joiner_turn g n k l i)
  joiner_right n k l = each_packet g n k l GoesRight (λ p o. only (Dispatcher (site_of_joiner g n)) (packet.Joined p o) site_below) (λ x. only (Server (site_of_joiner g n)) (packet.Insert x) site_below)
    where
      site_below : site_of_joiner g n < 2
      site_below = cond_both (nat_lt n (first_joiner g + g.config.joiners)) 0 1 (λ s. s < 2) (λ _. omega arith) (λ _. omega arith)

  -- ---- servers: to joiners that there are, to all replicas, and to the other server

  replicas_right : (site : ℕ) (p : Packet) → Each GoesRight (to_replicas g.config.replicas p)
  replicas_right site p = replicas_each g site GoesRight p (λ r lt. only (Replica r) p lt)

  module _ (site : ℕ) (k : ServerKept) (l : ServerLive) where
    joiner_is : (x : Insert) (a : Answer) → is_own_joiner g site x.token.joiner ≡ true → GoesRight (Only (Joiner x.token.joiner), packet.Reply x a)
    joiner_is x a t = grind arith

    replies_right : (vs : List Batch) (xs : List Insert) → Each GoesRight (replies g site vs xs)
    replies_right vs xs = replies_each g site GoesRight vs xs (λ x a m e t. joiner_is x a t)

    promise_right : (at : Place) (st : ShardState) (p : Proposal) (turn : Phase Batch × Option Batch) → SendsRight (promised g site k l at st p turn)
    promise_right at st p turn = grind (arith, replicas_right)

    accepted_right : site < 2 → (at : Place) (st : ShardState) (p : Proposal) (phase : Phase Batch) (o : Option Batch) → SendsRight (accepted g site k l at st p phase o)
    accepted_right below at st p phase o = grind (arith, replies_right)

    server_right : site < 2 → (i : Input) → SendsRight (server_turn g site k l i)
    server_right below =
        every_row g site k l (λ i o. SendsRight o)
        (record {
          idles = λ i. tt;
          ticks = tick_each g site GoesRight k l (λ h p marks best e f r lt m q. subst (IsNode g) q lt) (λ h p v marks e f r lt m q. subst (IsNode g) q lt);
          draws = λ h may. replicas_right site _;
          answers = λ from x a e. reply_each g site GoesRight x a (joiner_is x a);
          queues = λ from x. tt;
          learns_of = λ from at v e. replies_right ((l.shards at.shard).learned ++ v ∷ []) (l.shards at.shard).queue;
          promises = λ r at b o p e c. promise_right at (l.shards at.shard) p (on_promise p.own p.phase r o);
          accepts = λ r at b p e c. accepted_right below at (l.shards at.shard) p (on_accepted p.phase r).0 (on_accepted p.phase r).1;
          refuses = λ r at b above p e c. tt;
        })

  -- ---- replicas: to whoever asks

  -- ---- all

  -- who sent it is a node of the setting
  abbrev pub ComesRight : Input → Type 0
  ComesRight (Deliver from p) = IsNode g from
  ComesRight _ = ⊤

  pub sends_right : (n : Node) (k : KeptOf n) (live : Option (LiveOf n)) (i : Input) → IsNode g n → ComesRight i → SendsRight (row_of (rows_of n) g k live i)
  sends_right (Dispatcher site) k (Some l) i is from = dispatcher_right site k l i
  sends_right (Server site) k (Some l) i is from = server_right site k l is i
  sends_right (Replica r) k (Some l) (Deliver sender p) is from = grind arith
  sends_right (Joiner n) k (Some l) i is from = joiner_right n k l i
  sends_right _ k _ _ is from = tt

  -- so do the nodes that were chosen for a row's packets
  pub all_right : (rows : List (To × Packet)) (ps : List (Node × Packet)) → Each GoesRight rows → Addressed g rows ps → Each (λ (p : Node × Packet). IsNode g p.0) ps
  all_right [] [] e a = tt
  all_right (x ∷ xs) (p ∷ ps) e a = (e.0 p.0 a.0.0, all_right xs ps e.1 a.1)
  all_right _ _ e a = absurd a
