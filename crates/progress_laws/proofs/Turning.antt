-- What a server's turn makes of each of its shards, and what it asks.
use Rattle.std.proofs.Common.{subst, ◌+◌, ◌≡◌, ◌⊎◌, inl, inr, ℕ, suc, ◌<◌, ◌≤◌, max, Bool, true, false, ◌||◌, ◌&&◌, nat_lt, List, ◌∷◌, ◌++◌, length, take, Some, None, refl, sym, ap, ◌∙◌, arith, ◌-◌, [], Option, not}
use Rattle.progress_laws.proofs.Words.{and_parts, length-append, length-replicate, server_tick, Ballot, Insert, Batch, bound_of, Place, Phase, nobody, on_promise, on_accepted, Promising, Accepting, Mem, Each, set_at, at_set, mem_left, none_some, some_same, Setting, shard, Out, is_empty, Packet, Prepare, Promise, Nack, Accept, Accepted, Chosen, Server, Replica, To, Only, Input, Own, Deliver, ServerKept, ServerLive, ShardState, Proposal, to_replicas, is_below_limit, is_free, may_propose, reply, replies, learns, owns, goes_on, promised, accepted, nacked, server_turn, current_at, replicas_each, reply_each, replies_each, tick_each, is_left, next_of, set_own}
use Rattle.photon_model.proofs.ServerRows.{every_row}
use Rattle.progress_laws.proofs.Phases.{IsOpen, IfOpen, question, PhaseGoes, phase_same, nobody_open, promise_goes, accepted_goes, promise_open, accepted_open, mem_to}
use Rattle.turn_defs.specs.declared.packet.Packet.TheVariants as packet

-- the ballot of a shard's attempt
abbrev pub ballot_in : Option Proposal → Option Ballot
ballot_in None = None
ballot_in (Some p) = Some p.ballot

-- nothing is learned, and what waits goes on to wait
abbrev pub Same : ShardState → ShardState → Type 0
Same st now = (now.learned ≡ st.learned) × ((x : Insert) → Mem x st.queue → Mem x now.queue)

-- the attempt stays, and what isn't held isn't held after it
abbrev pub Keeps : ShardState → ShardState → Type 0
Keeps st now = (ballot_in now.proposal ≡ ballot_in st.proposal) × (st.held ≡ false → now.held ≡ false)

-- what a server may learn a value of
abbrev pub teaches : Input → Bool
teaches (Deliver from (Chosen at v)) = true
teaches (Deliver from (Accepted at b)) = true
teaches _ = false

-- a value is learned, and no attempt stands
abbrev pub Learns : Input → ShardState → ShardState → Type 0
Learns i st now = (length st.learned < length now.learned) × (now.proposal ≡ None) × (teaches i ≡ true)

-- an attempt stands at the place, with the ballot
abbrev pub Stands : (ℕ → ShardState) → Place → Ballot → Type 0
Stands f at b = (next_of at.shard (f at.shard) ≡ at) × (ballot_in (f at.shard).proposal ≡ Some b)

-- a question is about an attempt that stands, and a server refuses nothing
abbrev pub Asks : (ℕ → ShardState) → Packet → Type 0
Asks f (Prepare at b) = Stands f at b
Asks f (Accept at b v) = Stands f at b
Asks f (Nack at b c) = ⊥
Asks f _ = Unit {0}

abbrev pub AllAsk : (ℕ → ShardState) → List (To × Packet) → Type 0
AllAsk f ps = Each (λ (a : To × Packet). Asks f a.1) ps

is_none : (o : Option Proposal) → is_free o ≡ true → o ≡ None
is_none o e = grind arith

module _ (g : Setting) (site : ℕ) (k : ServerKept) (l : ServerLive) where
  -- an attempt is drawn in the next round, where something is left to do
  abbrev pub Draws : ShardState → ShardState → Type 0
  Draws st now = (b : Ballot) × (ballot_in st.proposal ≡ None) × (is_left g st ≡ true) × (ballot_in now.proposal ≡ Some b) × (b.round ≡ suc l.round)

  -- the attempt is refused by a replica, and the round is not below the promise then
  abbrev pub IsRefused : Input → ℕ → ℕ → ShardState → ShardState → Type 0
  IsRefused i round n st now = (r : ℕ) × (b : Ballot) × (c : Ballot) × (i ≡ Deliver (Replica r) (Nack (next_of n st) b c)) × (ballot_in st.proposal ≡ Some b) × (ballot_in now.proposal ≡ None) × (c.round ≤ round)

  -- what becomes of a shard's attempt where the turn learns nothing
  abbrev pub Fate : Input → ℕ → ℕ → ShardState → ShardState → Type 0
  Fate i round n st now = Keeps st now ⊎ (Draws st now ⊎ IsRefused i round n st now)

  abbrev pub Turned : Input → ℕ → ℕ → ShardState → ShardState → Type 0
  Turned i round n st now = (Same st now × Fate i round n st now) ⊎ Learns i st now

  -- each attempt is open
  abbrev pub LiveOpen : ServerLive → Type 0
  LiveOpen m = (n : ℕ) → IfOpen g.config.replicas (m.shards n).proposal

  -- the question goes to each replica
  abbrev pub AsksAll : ℕ → ShardState → Proposal → List (To × Packet) → Type 0
  AsksAll n st p ps = (r : ℕ) → r < g.config.replicas → Mem (Only (Replica r), question (next_of n st) p.ballot p.phase) ps

  -- the attempt goes on
  abbrev pub IsKept : ℕ → ShardState → Proposal → Type 0
  IsKept n st p = (old : Proposal) × ((l.shards n).proposal ≡ Some old) × (st.learned ≡ (l.shards n).learned) × (p.ballot ≡ old.ballot) × PhaseGoes old.phase p.phase

  abbrev pub Follows : ℕ → ShardState → List (To × Packet) → Type 0
  Follows n st ps = (p : Proposal) → st.proposal ≡ Some p → AsksAll n st p ps ⊎ IsKept n st p

  abbrev pub AllFollow : Out ServerLive → Type 0
  AllFollow o = (n : ℕ) → Follows n (o.live.shards n) o.packets

  -- what a turn makes of the server
  pub record Turns (i : Input) (o : Out ServerLive) : Type 0 where
    pub rounds : l.round ≤ o.live.round
    pub each : (n : ℕ) → Turned i o.live.round n (l.shards n) (o.live.shards n)
    pub asks : AllAsk o.live.shards o.packets
    pub follows : AllFollow o
    pub opens : LiveOpen l → LiveOpen o.live

  same : (i : Input) (round n : ℕ) → Turned i round n (l.shards n) (l.shards n)
  same i round n = inl ((refl, λ x m. m), inl (refl, λ h. h))

  still : (n : ℕ) (st : ShardState) (ps : List (To × Packet)) → st.proposal ≡ (l.shards n).proposal → st.learned ≡ (l.shards n).learned → Follows n st ps
  still n st ps e s p q = inr (p, sym e ∙ q, s, refl, phase_same p.phase)

  gone : (s : ℕ) (st : ShardState) (ps : List (To × Packet)) → st.proposal ≡ None → Follows s st ps
  gone s st ps e p q = none_some p (sym e ∙ q)

  stood : LiveOpen l → (s : ℕ) (p : Proposal) → (l.shards s).proposal ≡ Some p → IsOpen g.config.replicas p.phase
  stood h s p e = subst (IfOpen g.config.replicas) e (h s)

  -- one shard changes
  sets : (i : Input) (ps : List (To × Packet)) (round s : ℕ) (st : ShardState) → l.round ≤ round → Turned i round s (l.shards s) st → AllAsk (set_at l.shards s st) ps → Follows s st ps → (LiveOpen l → IfOpen g.config.replicas st.proposal) → Turns i (record { note = None; packets = ps; live = record { round = round; shards = set_at l.shards s st } })
  sets i ps round s st le turned asks follows opens =
      record {
        rounds = le;
        each = at_set (λ n (c : ShardState). Turned i round n (l.shards n) c) l.shards s st turned (same i round);
        asks = asks;
        follows = at_set (λ n (c : ShardState). Follows n c ps) l.shards s st follows (λ n. still n (l.shards n) ps refl refl);
        opens = λ h. at_set (λ n (c : ShardState). IfOpen g.config.replicas c.proposal) l.shards s st (opens h) h;
      }

  -- none does
  stays : (i : Input) (ps : List (To × Packet)) → AllAsk l.shards ps → Turns i (record { note = None; packets = ps; live = l })
  stays i ps asks = record { rounds = omega arith; each = same i l.round; asks = asks; follows = λ n. still n (l.shards n) ps refl refl; opens = λ h. h }

  replies_ask : (f : ℕ → ShardState) (vs : List Batch) (xs : List Insert) → AllAsk f (replies g site vs xs)
  replies_ask f vs xs = replies_each g site (λ (a : To × Packet). Asks f a.1) vs xs (λ x a m e t. tt)

  question_asks : (f : ℕ → ShardState) (p : Packet) → Asks f p → AllAsk f (to_replicas g.config.replicas p)
  question_asks f p h = replicas_each g site (λ (a : To × Packet). Asks f a.1) p (λ i lt. h)

  learned : (i : Input) → teaches i ≡ true → (ps : List (To × Packet)) (s : ℕ) (v : Batch) → AllAsk (set_at l.shards s (learns g site (l.shards s) v)) ps → Turns i (record { note = None; packets = ps; live = record { round = l.round; shards = set_at l.shards s (learns g site (l.shards s) v) } })
  learned i tells ps s v asks = sets i ps l.round s (learns g site (l.shards s) v) (omega arith) (inr (let long : length ((l.shards s).learned ++ v ∷ []) ≡ length (l.shards s).learned + 1 = length-append (l.shards s).learned (v ∷ []) in omega (arith, long), refl, tells)) asks (gone s (learns g site (l.shards s) v) ps refl) (λ h. tt)

  -- an attempt stands at its place where its shard is set
  stands_at : (at : Place) (st : ShardState) (b : Ballot) → next_of at.shard st ≡ at → ballot_in st.proposal ≡ Some b → Stands (set_at l.shards at.shard st) at b
  stands_at at st b next e = (set_own (next_of at.shard) l.shards at.shard st ∙ next, set_own (λ (c : ShardState). ballot_in c.proposal) l.shards at.shard st ∙ e)

  abbrev drawn : Ballot
  drawn = record { round = suc l.round; epoch = k.epoch; site = site }

  draws : (s : ℕ) → may_propose g (l.shards s) ≡ true → Turns Own (owns g site k l (Some s))
  draws s may =
      let parts = and_parts (is_free (l.shards s).proposal && not (l.shards s).held) ((not (is_empty (l.shards s).queue) || nat_lt (bound_of (l.shards s).learned) g.config.horizon) && is_below_limit (length (l.shards s).learned)) may in
      let free = is_none (l.shards s).proposal (and_parts (is_free (l.shards s).proposal) (not (l.shards s).held) parts.0).0 in
      let left = (and_parts (not (is_empty (l.shards s).queue) || nat_lt (bound_of (l.shards s).learned) g.config.horizon) (is_below_limit (length (l.shards s).learned)) parts.1).0 in
      let st : ShardState = record (l.shards s) { proposal = Some (record { ballot = drawn; own = record { bound = g.config.horizon; inserts = take g.config.batch (l.shards s).queue }; phase = Promising (nobody g.config.replicas) None }) } in
      sets Own (to_replicas g.config.replicas (Prepare (next_of s (l.shards s)) drawn)) (suc l.round) s st (omega arith)
      (inl ((refl, λ x m. m), inr (inl (drawn, ap ballot_in free, left, refl, refl))))
      (question_asks (set_at l.shards s st) (Prepare (next_of s (l.shards s)) drawn) (stands_at (next_of s (l.shards s)) st drawn refl refl))
      (λ p q. inl (λ r lt. subst (λ (x : Proposal). Mem (Only (Replica r), question (next_of s (l.shards s)) x.ballot x.phase) (to_replicas g.config.replicas (Prepare (next_of s (l.shards s)) drawn))) (some_same _ p q) (mem_to r 0 g.config.replicas (Prepare (next_of s (l.shards s)) drawn) (omega arith) (omega arith))))
      (λ h. (length-replicate g.config.replicas false, nobody_open g.config.replicas))

  -- an attempt goes on to a phase
  abbrev with_phase : Place → Proposal → Phase Batch → ShardState
  with_phase at p phase = record (l.shards at.shard) { proposal = Some (record { ballot = p.ballot; own = p.own; phase = phase }) }

  goes : (i : Input) (at : Place) (p : Proposal) (phase : Phase Batch) (ps : List (To × Packet)) → (l.shards at.shard).proposal ≡ Some p → (IsOpen g.config.replicas p.phase → IsOpen g.config.replicas phase) → AllAsk (set_at l.shards at.shard (with_phase at p phase)) ps → Follows at.shard (with_phase at p phase) ps → Turns i (record { note = None; packets = ps; live = goes_on g site k l at.shard (l.shards at.shard) p phase })
  goes i at p phase ps e opens asks follows = sets i ps l.round at.shard (with_phase at p phase) (omega arith) (inl ((refl, λ x m. m), inl (sym (ap ballot_in e), λ h. h))) asks follows (λ h. opens (stood h at.shard p e))

  -- it goes on as it was
  keeps : (at : Place) (p : Proposal) (phase : Phase Batch) (ps : List (To × Packet)) → (l.shards at.shard).proposal ≡ Some p → PhaseGoes p.phase phase → Follows at.shard (with_phase at p phase) ps
  keeps at p phase ps e goes x q = inr (p, e, refl, ap (λ (y : Proposal). y.ballot) (sym (some_same _ x q)), subst (λ (y : Proposal). PhaseGoes p.phase y.phase) (some_same _ x q) goes)

  -- with a value all are asked to accept it
  abbrev IsPromiseTurn : Phase Batch → Phase Batch → Option Batch → Type 0
  IsPromiseTurn was phase o = ((o ≡ None) × PhaseGoes was phase) ⊎ ((v : Batch) × (marks : List Bool) × (o ≡ Some v) × (phase ≡ Accepting v marks))

  pub promised_turns : (i : Input) (at : Place) (p : Proposal) → (l.shards at.shard).proposal ≡ Some p → next_of at.shard (l.shards at.shard) ≡ at → (phase : Phase Batch) (o : Option Batch) → IsPromiseTurn p.phase phase o → (IsOpen g.config.replicas p.phase → IsOpen g.config.replicas phase) → Turns i (promised g site k l at (l.shards at.shard) p (phase, o))
  promised_turns i at p e next phase None (inl h) opens = goes i at p phase [] e opens tt (keeps at p phase [] e h.1)
  promised_turns i at p e next phase None (inr (v, marks, is, h)) opens = none_some v is
  promised_turns i at p e next phase (Some v) (inl h) opens = none_some v (sym h.0)
  promised_turns i at p e next phase (Some v) (inr (u, marks, is, h)) opens =
      goes i at p phase (to_replicas g.config.replicas (Accept at p.ballot v)) e opens
      (question_asks (set_at l.shards at.shard (with_phase at p phase)) (Accept at p.ballot v) (stands_at at (with_phase at p phase) p.ballot next refl))
      (λ x q. inl (λ r lt. subst (λ (y : Proposal). Mem (Only (Replica r), question (next_of at.shard (l.shards at.shard)) y.ballot y.phase) (to_replicas g.config.replicas (Accept at p.ballot v))) (some_same _ x q)
      (subst (λ (y : Phase Batch). Mem (Only (Replica r), question (next_of at.shard (l.shards at.shard)) p.ballot y) (to_replicas g.config.replicas (Accept at p.ballot v))) (sym (h ∙ ap (λ z. Accepting z marks) (some_same u v (sym is))))
      (subst (λ (y : Place). Mem (Only (Replica r), Accept y p.ballot v) (to_replicas g.config.replicas (Accept at p.ballot v))) (sym next) (mem_to r 0 g.config.replicas (Accept at p.ballot v) (omega arith) (omega arith))))))

  accepted_turns : (i : Input) → teaches i ≡ true → (at : Place) (p : Proposal) → (l.shards at.shard).proposal ≡ Some p → (phase : Phase Batch) (o : Option Batch) → (o ≡ None → PhaseGoes p.phase phase) → (o ≡ None → IsOpen g.config.replicas p.phase → IsOpen g.config.replicas phase) → Turns i (accepted g site k l at (l.shards at.shard) p phase o)
  accepted_turns i tells at p e phase None follows opens = goes i at p phase [] e (opens refl) tt (keeps at p phase [] e (follows refl))
  accepted_turns i tells at p e phase (Some v) follows opens = learned i tells ((Only (Server (1 - site)), Chosen at v) ∷ replies g site ((l.shards at.shard).learned ++ v ∷ []) (l.shards at.shard).queue) at.shard v (tt, replies_ask (set_at l.shards at.shard (learns g site (l.shards at.shard) v)) ((l.shards at.shard).learned ++ v ∷ []) (l.shards at.shard).queue)

  nacked_turns : (r : ℕ) (at : Place) (b c : Ballot) (p : Proposal) → (l.shards at.shard).proposal ≡ Some p → (next_of at.shard (l.shards at.shard) ≡ at) × (p.ballot ≡ b) → Turns (Deliver (Replica r) (Nack at b c)) (nacked g site k l at (l.shards at.shard) c)
  nacked_turns r at b c p e (next, same) =
      sets (Deliver (Replica r) (Nack at b c)) [] (max l.round c.round) at.shard (record (l.shards at.shard) { proposal = None; held = true }) (omega arith)
      (inl ((refl, λ x m. m), inr (inr (r, b, c, ap (λ (q : Place). Deliver (Replica r) (Nack q b c)) (sym next), ap ballot_in e ∙ ap Some same, refl, omega arith)))) tt
      (gone at.shard (record (l.shards at.shard) { proposal = None; held = true }) [] refl) (λ h. tt)

  abbrev not_held : ℕ → ShardState
  not_held s = record (l.shards s) { held = false }

  pub turns : (i : Input) → Turns i (server_turn g site k l i)
  turns =
      every_row g site k l (λ i o. Turns i o)
      (record {
        idles = λ i. stays i [] tt;
        ticks = record {
          rounds = omega arith;
          each = λ n. inl ((refl, λ x m. m), inl (refl, λ h. refl));
          asks = tick_each g site (λ (a : To × Packet). Asks not_held a.1) k l (λ s p marks best e f i lt. (refl, ap ballot_in e)) (λ s p v marks e f i lt. (refl, ap ballot_in e));
          follows = λ n. still n (not_held n) (server_tick g site k l).packets refl refl;
          opens = λ h. h;
        };
        draws = draws;
        answers = λ from x a e. stays (Deliver from (packet.Insert x)) (reply g site x a) (reply_each g site (λ (b : To × Packet). Asks l.shards b.1) x a (λ t. tt));
        queues = λ from x. let s = shard g x.id in
            sets (Deliver from (packet.Insert x)) [] l.round s (record (l.shards s) { queue = (l.shards s).queue ++ x ∷ [] }) (omega arith) (inl ((refl, λ y m. mem_left y (l.shards s).queue (x ∷ []) m), inl (refl, λ h. h))) tt
            (still s (record (l.shards s) { queue = (l.shards s).queue ++ x ∷ [] }) [] refl refl) (λ h. h s);
        learns_of = λ from at v e. learned (Deliver from (Chosen at v)) refl (replies g site ((l.shards at.shard).learned ++ v ∷ []) (l.shards at.shard).queue) at.shard v (replies_ask (set_at l.shards at.shard (learns g site (l.shards at.shard) v)) ((l.shards at.shard).learned ++ v ∷ []) (l.shards at.shard).queue);
        promises = λ r at b o p e c. promised_turns (Deliver (Replica r) (Promise at b o)) at p e (sym (current_at g at b (l.shards at.shard) p c).0) (on_promise p.own p.phase r o).0 (on_promise p.own p.phase r o).1 (promise_goes p.own p.phase r o) (promise_open g.config.replicas p.own p.phase r o);
        accepts = λ r at b p e c. accepted_turns (Deliver (Replica r) (Accepted at b)) refl at p e (on_accepted p.phase r).0 (on_accepted p.phase r).1 (accepted_goes p.phase r) (λ n o. accepted_open g.config.replicas p.phase r o n);
        refuses = λ r at b above p e c. let is = current_at g at b (l.shards at.shard) p c in nacked_turns r at b above p e (sym is.0, sym is.1);
      })
