-- Where the server's numbers, what it knows and the input have spellings, so have the row's packets and what it knows next.
use Rattle.std.proofs.Common.{◌≡◌, ℕ, suc, ◌+◌, ◌^◌, ◌<◌, ◌≤◌, ◌||◌, Bool, true, List, [], ◌∷◌, ◌++◌, length, take, Option, Some, None, refl, arith, nat_le, IfSome}
use Rattle.registry_server.proofs.Words.{MOST_WAITING, LAST_SLOT, LAST_EPOCH, cond_both, ltb-true, and_parts, length-take, Each, each_append, at_set, EventId, same_id, Ballot, Token, Insert, Batch, Answer, Granted, Duplicate, same_token, bound_of, first_in, first_insert, replay_held, IsToken, IsInsert, IsAnswer, IsPlace, IsBallot, IsBatch, IsPrior, Place, higher, Phase, nobody, on_promise, on_accepted, Promising, Packet, Node, Input, To, IsPacket, Setting, shards, Out, idle, ServerKept, ServerLive, ShardState, Proposal, empty_shard, queued, to_from, is_below_limit, may_propose, first_shard, is_current, reply_if, replies, unanswered, with_shard, claimed, proposes, goes_on, accept_if, promised, accepted, nacked, gets_promise, gets_accepted, gets_nack, gets_chosen, again, all_again, server_gets, server_turn, nothing_known, IsSpelledPhase, IsSpelledProposal, IsSpelledShard, IsSpelledPlan, IsSpelledLive, IsInput}
use Rattle.turn_defs.specs.declared.packet.Packet.TheVariants as packet

abbrev pub Sends : List (To × Packet) → Type 0
Sends ps = Each (λ (p : To × Packet). IsPacket p.1) ps

-- the row has no note, its packets have spellings, and so has what it knows next
pub record IsSpelledOut (k : ServerKept) (out : Out ServerLive) : Type 0 where
  pub quiet : out.note ≡ None
  pub packets : Sends out.packets
  pub live : IsSpelledLive k out.live

-- ---- answers

bound_ok : (vs : List Batch) → Each IsBatch vs → bound_of vs < 2 ^ 64
bound_ok [] e = omega arith
bound_ok (v ∷ vs) e = let rest = bound_ok vs e.1 in let one = e.0.bound in omega arith

first_in_ok : (xs : List Insert) (i : EventId) → Each IsInsert xs → IfSome (first_in xs i) IsToken
first_in_ok [] i e = tt
first_in_ok (x ∷ xs) i e = cond_both (same_id x.id i) (Some x.token) (first_in xs i) (λ o. IfSome o IsToken) (λ _. e.0.token) (λ _. first_in_ok xs i e.1)

first_ok : (vs : List Batch) (i : EventId) → Each IsBatch vs → IfSome (first_insert vs i) IsToken
first_ok [] i e = tt
first_ok (v ∷ vs) i e = grind (arith, first_in_ok, first_ok vs i e.1)

held_ok : (t : Token) (o : Option Token) → IfSome o IsToken → IfSome (replay_held t o) IsAnswer
held_ok t None is = tt
held_ok t (Some h) is = cond_both (same_token h t) Granted (Duplicate h) IsAnswer (λ _. tt) (λ _. is)

-- ---- proposals

higher_ok : (a b : Option (Ballot × Batch)) → IsPrior a → IsPrior b → IsPrior (higher a b)
higher_ok h b x y = grind arith

abbrev IsTurnOk : Phase Batch × Option Batch → Type 0
IsTurnOk t = IsSpelledPhase t.0 × IfSome t.1 IsBatch

promise_ok : (own : Batch) (phase : Phase Batch) (r : ℕ) (prior : Option (Ballot × Batch)) → IsBatch own → IsSpelledPhase phase → IsPrior prior → IsTurnOk (on_promise own phase r prior)
promise_ok own h r prior o p q = grind (arith, higher_ok)

acceptance_ok : (phase : Phase Batch) (r : ℕ) → IsSpelledPhase phase → IsTurnOk (on_accepted phase r)
acceptance_ok h r p = grind arith

-- ---- packets

to_ok : (r n : ℕ) (p : Packet) → IsPacket p → Sends (to_from r n p)
to_ok r ℕ.zero p is = tt
to_ok r (suc n) p is = (is, to_ok (suc r) n p is)

first_is : (P : ℕ → Bool) (from n s : ℕ) → first_shard P from n ≡ Some s → (P s ≡ true) × (s < from + n)
first_is P from ℕ.zero s e = absurd (cc)
first_is P from (suc n) s e = grind (arith, first_is P (suc from) n s)

module _ (g : Setting) (site : ℕ) (plan : IsSpelledPlan g site) where
  reply_if_ok : (x : Insert) (o : Option Answer) → IsInsert x → IfSome o IsAnswer → Sends (reply_if g site x o)
  reply_if_ok x None ix is = tt
  reply_if_ok x (Some a) ix is = grind arith

  replies_ok : (vs : List Batch) (xs : List Insert) → Each IsBatch vs → Each IsInsert xs → Sends (replies g site vs xs)
  replies_ok vs [] ev ex = tt
  replies_ok vs (x ∷ xs) ev ex = grind (arith, reply_if_ok, bound_ok, held_ok, first_ok, replies_ok vs xs ev ex.1)

  unanswered_ok : (vs : List Batch) (xs : List Insert) → Each IsInsert xs → Each IsInsert (unanswered g site vs xs)
  unanswered_ok vs [] e = tt
  unanswered_ok vs (x ∷ xs) e = grind (arith, unanswered_ok vs xs e.1)

  learned_ok : (st : ShardState) (v : Batch) → IsSpelledShard st → IsBatch v → Each IsBatch (st.learned ++ v ∷ [])
  learned_ok st v is iv = each_append IsBatch st.learned (v ∷ []) is.learned (iv, tt)

  -- ---- rows
  module _ (k : ServerKept) (l : ServerLive) (live : IsSpelledLive k l) where
    idle_ok : IsSpelledOut k (idle l)
    idle_ok = record { quiet = refl; packets = tt; live = live }

    -- one shard changes, and the round doesn't
    set_ok : (s : ℕ) (st : ShardState) → IsSpelledShard st → IsSpelledLive k (with_shard g site k l s st)
    set_ok s st is = record { epoch = live.epoch; round = live.round; each = at_set (λ m x. IsSpelledShard x) l.shards s st is live.each }

    claimed_ok : (x : Insert) (s : ℕ) (o : Option Answer) → IsInsert x → IfSome o IsAnswer → IsSpelledOut k (claimed g site k l x s (l.shards s) o)
    claimed_ok x s (Some a) ix is = grind arith
    claimed_ok x s None ix is =
        let st = l.shards s in
        cond_both (queued st.queue x.token || nat_le MOST_WAITING (length st.queue)) (idle l) (record { note = None; packets = []; live = with_shard g site k l s (record st { queue = st.queue ++ x ∷ [] }) }) (IsSpelledOut k)
        (λ _. idle_ok)
        (λ _. record { quiet = refl; packets = tt; live = set_ok s (record st { queue = st.queue ++ x ∷ [] }) (record { learned = (live.each s).learned; queue = each_append IsInsert st.queue (x ∷ []) (live.each s).queue (ix, tt); proposal = (live.each s).proposal }) })

    proposes_ok : (s : ℕ) → is_below_limit l.round ≡ true → may_propose g (l.shards s) ≡ true → s < shards g → IsSpelledOut k (proposes g site k l s (l.shards s) (record { round = suc l.round; epoch = k.epoch; site = site }))
    proposes_ok s low may lt =
        let st = l.shards s in
        let is = live.each s in
        let few = plan.shards in
        let round : l.round < LAST_SLOT = ltb-true l.round LAST_SLOT low in
        let slot : length st.learned < LAST_SLOT = ltb-true (length st.learned) LAST_SLOT (and_parts _ _ (and_parts _ _ may).1).1 in
        let shard_is : s < 16 = omega arith in
        let slot_is : length st.learned < 2 ^ 48 = omega arith in
        let round_is : suc l.round < 2 ^ 48 = omega arith in
        let ballot : IsBallot (record { round = suc l.round; epoch = k.epoch; site = site }) = record { round = round_is; epoch = live.epoch; site = plan.site } in
        record {
          quiet = refl;
          packets = to_ok 0 g.config.replicas _ (record { shard = shard_is; slot = slot_is }, ballot);
          live =
              record {
                epoch = live.epoch;
                round = round_is;
                each =
                    at_set (λ m x. IsSpelledShard x) l.shards s (record st { proposal = Some (record { ballot = record { round = suc l.round; epoch = k.epoch; site = site }; own = record { bound = g.config.horizon; inserts = take g.config.batch st.queue }; phase = Promising (nobody g.config.replicas) None }) })
                    (record { learned = is.learned; queue = is.queue; proposal = record { slot = slot_is; ballot = ballot; own = own_ok st.queue is.queue; phase = tt } })
                    live.each;
              };
        }
      where
        each_take : (n : ℕ) (xs : List Insert) → Each IsInsert xs → Each IsInsert (take n xs)
        each_take ℕ.zero xs e = tt
        each_take (suc n) [] e = tt
        each_take (suc n) (x ∷ xs) e = (e.0, each_take n xs e.1)

        own_ok : (xs : List Insert) → Each IsInsert xs → IsBatch (record { bound = g.config.horizon; inserts = take g.config.batch xs })
        own_ok xs e = record { bound = plan.horizon; count = (let few = plan.batch in let long = length-take g.config.batch xs in omega arith); inserts = each_take g.config.batch xs e }

    goes_on_ok : (s : ℕ) (p : Proposal) (phase : Phase Batch) → IsSpelledProposal (length (l.shards s).learned) p → IsSpelledPhase phase → IsSpelledLive k (goes_on g site k l s (l.shards s) p phase)
    goes_on_ok s p phase is ph = set_ok s (record (l.shards s) { proposal = Some (record { ballot = p.ballot; own = p.own; phase = phase }) }) (record { learned = (live.each s).learned; queue = (live.each s).queue; proposal = record { slot = is.slot; ballot = is.ballot; own = is.own; phase = ph } })

    accept_ok : (at : Place) (b : Ballot) (o : Option Batch) → IsPlace at → IsBallot b → IfSome o IsBatch → Sends (accept_if g site k l at b o)
    accept_ok at b None ia ib io = tt
    accept_ok at b (Some v) ia ib io = to_ok 0 g.config.replicas (packet.Accept at b v) (ia, ib, io)

    gets_promise_ok : (r : ℕ) (at : Place) (b : Ballot) (prior : Option (Ballot × Batch)) (o : Option Proposal) → IsPlace at → IsPrior prior → IfSome o (IsSpelledProposal (length (l.shards at.shard).learned)) → IsSpelledOut k (gets_promise g site k l r at b prior (l.shards at.shard) o)
    gets_promise_ok r at b prior None ia ip is = idle_ok
    gets_promise_ok r at b prior (Some p) ia ip is =
        let turn = promise_ok p.own p.phase r prior is.own is.phase ip in
        cond_both (is_current g at b (l.shards at.shard) p) (promised g site k l at (l.shards at.shard) p (on_promise p.own p.phase r prior)) (idle l) (IsSpelledOut k)
        (λ _. record { quiet = refl; packets = accept_ok at p.ballot (on_promise p.own p.phase r prior).1 ia is.ballot turn.1; live = goes_on_ok at.shard p (on_promise p.own p.phase r prior).0 is turn.0 })
        (λ _. idle_ok)

    accepted_ok : (at : Place) (p : Proposal) (phase : Phase Batch) (o : Option Batch) → IsPlace at → IsSpelledProposal (length (l.shards at.shard).learned) p → IsSpelledPhase phase → IfSome o IsBatch → IsSpelledOut k (accepted g site k l at (l.shards at.shard) p phase o)
    accepted_ok at p phase h ia is ph io = grind (arith, goes_on_ok, replies_ok, learned_ok, unanswered_ok)

    gets_accepted_ok : (r : ℕ) (at : Place) (b : Ballot) (o : Option Proposal) → IsPlace at → IfSome o (IsSpelledProposal (length (l.shards at.shard).learned)) → IsSpelledOut k (gets_accepted g site k l r at b (l.shards at.shard) o)
    gets_accepted_ok r at b h ia is = grind (arith, idle_ok, acceptance_ok, accepted_ok)

    nacked_ok : (at : Place) (above : Ballot) → IsBallot above → IsSpelledOut k (nacked g site k l at (l.shards at.shard) above)
    nacked_ok at above ib = grind arith

    gets_nack_ok : (at : Place) (b above : Ballot) (o : Option Proposal) → IsBallot above → IsSpelledOut k (gets_nack g site k l at b above (l.shards at.shard) o)
    gets_nack_ok at b above None ib = idle_ok
    gets_nack_ok at b above (Some p) ib = cond_both (is_current g at b (l.shards at.shard) p) (nacked g site k l at (l.shards at.shard) above) (idle l) (IsSpelledOut k) (λ _. nacked_ok at above ib) (λ _. idle_ok)

    gets_chosen_ok : (at : Place) (v : Batch) → IsBatch v → IsSpelledOut k (gets_chosen g site k l at v (l.shards at.shard))
    gets_chosen_ok at v iv = grind (arith, replies_ok, learned_ok, set_ok, unanswered_ok)

    again_ok : (s : ℕ) (o : Option Proposal) → s < 16 → IfSome o (IsSpelledProposal (length (l.shards s).learned)) → Sends (again g site k l s (l.shards s) o)
    again_ok s None lt is = tt
    again_ok s (Some p) lt is = grind (arith, to_ok)

    all_ok : (from n : ℕ) → from + n ≤ 16 → Sends (all_again g site k l from n)
    all_ok from ℕ.zero le = tt
    all_ok from (suc n) le = each_append (λ (p : To × Packet). IsPacket p.1) (again g site k l from (l.shards from) (l.shards from).proposal) (all_again g site k l (suc from) n) (again_ok from (l.shards from).proposal (omega arith) (live.each from).proposal) (all_ok (suc from) n (omega arith))

    gets_ok : (from : Node) (p : Packet) → IsPacket p → IsSpelledOut k (server_gets g site k l from p)
    gets_ok from h is = grind (arith, claimed_ok, bound_ok, held_ok, first_ok, gets_chosen_ok, gets_promise_ok, gets_accepted_ok, gets_nack_ok)

    pub turn_ok : (i : Input) → IsInput i → IsSpelledOut k (server_turn g site k l i)
    turn_ok h is = grind (arith, idle_ok, proposes_ok, first_is, all_ok, gets_ok)

empty_ok : IsSpelledShard empty_shard
empty_ok = record { learned = tt; queue = tt; proposal = tt }

-- a server that is down
pub nothing_ok : (e : ℕ) → e ≤ LAST_EPOCH → IsSpelledLive (record { epoch = e }) nothing_known
nothing_ok e low = record { epoch = omega arith; round = omega arith; each = λ s. empty_ok }
