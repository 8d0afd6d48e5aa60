-- The rows of a server: what holds of each row's case holds of every turn.
use Rattle.std.proofs.Common.{◌≡◌, ℕ, zero, suc, ◌+◌, ◌<◌, Bool, true, false, List, [], ◌∷◌, ◌++◌, length, set, Some, None, refl, arith, Option}
use Rattle.std.proofs.lemmas.Bool.{cond_both, eqb-true, and_parts}
use Rattle.photon_model.proofs.Words.{Setting, shard, shards, Ballot, Batch, Insert, Place, Answer, replay, Phase, on_promise, on_accepted, Promising, Accepting, Ended, Mem, Each, Packet, Claim, Reply, Prepare, Promise, Nack, Accept, Accepted, Chosen, Node, Replica, Joiner, To, Only, Input, Own, Tick, Deliver, Out, idle, ServerKept, ServerLive, ShardState, Proposal, to_from, to_replicas, may_propose, is_current, is_own_joiner, reply, replies, with_shard, learns, owns, server_own, promised, accepted, nacked, of_phase, again, all_again, server_tick, from_replica, server_gets, server_turn, option_both, each_append, higher, value_for, is_new, is_most, nobody, with_promise, with_acceptance}
use Rattle.photon_model.proofs.Finding.{first_is}

-- the next place of a shard
abbrev pub next_at : ℕ → ShardState → Place
next_at s st = record { shard = s; slot = length st.learned }

-- a current packet is of the proposal's place and ballot
pub current_at : (g : Setting) (at : Place) (b : Ballot) (st : ShardState) (p : Proposal) → is_current g at b st p ≡ true → (at ≡ next_at at.shard st) × (b ≡ p.ballot)
current_at g at b st p h = grind arith

-- ---- the packets of a row

module _ (g : Setting) (site : ℕ) (P : To × Packet → Type 0) where
  from_each : (r m : ℕ) (p : Packet) → ((i : ℕ) → i < r + m → P (Only (Replica i), p)) → Each P (to_from r m p)
  from_each r zero p h = tt
  from_each r (suc m) p h = (h r (omega arith), from_each (suc r) m p (λ i lt. h i (omega arith)))

  pub replicas_each : (p : Packet) → ((i : ℕ) → i < g.config.replicas → P (Only (Replica i), p)) → Each P (to_replicas g.config.replicas p)
  replicas_each p h = from_each 0 g.config.replicas p (λ i lt. h i (omega arith))

  pub reply_each : (x : Insert) (a : Answer) → (is_own_joiner g site x.token.joiner ≡ true → P (Only (Joiner x.token.joiner), Reply x a)) → Each P (reply g site x a)
  reply_each x a h = cond_both (is_own_joiner g site x.token.joiner) ((Only (Joiner x.token.joiner), Reply x a) ∷ []) [] (Each P) (λ t. (h t, tt)) (λ _. tt)

  pub replies_each : (vs : List Batch) (xs : List Insert) → ((x : Insert) (a : Answer) → Mem x xs → replay vs x.id x.token ≡ Some a → is_own_joiner g site x.token.joiner ≡ true → P (Only (Joiner x.token.joiner), Reply x a)) → Each P (replies g site vs xs)
  replies_each vs [] h = tt
  replies_each vs (x ∷ xs) h = grind (arith, replies_each vs xs)

  -- a Tick sends the question of each proposal again
  module _ (k : ServerKept) (l : ServerLive) (asks : (s : ℕ) (p : Proposal) (marks : List Bool) (best : Option (Ballot × Batch)) → (l.shards s).proposal ≡ Some p → p.phase ≡ Promising marks best → (i : ℕ) → i < g.config.replicas → P (Only (Replica i), Prepare (next_at s (l.shards s)) p.ballot))
      (offers : (s : ℕ) (p : Proposal) (v : Batch) (marks : List Bool) → (l.shards s).proposal ≡ Some p → p.phase ≡ Accepting v marks → (i : ℕ) → i < g.config.replicas → P (Only (Replica i), Accept (next_at s (l.shards s)) p.ballot v)) where
    again_each : (s : ℕ) → Each P (again g site k l s (l.shards s) (l.shards s).proposal)
    again_each s = option_both (l.shards s).proposal (again g site k l s (l.shards s)) (Each P) (λ p e. of p e p.phase refl) (λ _. tt)
      where
        of : (p : Proposal) → (l.shards s).proposal ≡ Some p → (q : Phase Batch) → p.phase ≡ q → Each P (of_phase g site k l (next_at s (l.shards s)) p.ballot q)
        of p e (Promising marks best) f = replicas_each (Prepare (next_at s (l.shards s)) p.ballot) (asks s p marks best e f)
        of p e (Accepting v marks) f = replicas_each (Accept (next_at s (l.shards s)) p.ballot v) (offers s p v marks e f)
        of p e Ended f = tt

    all_each : (from m : ℕ) → Each P (all_again g site k l from m)
    all_each from zero = tt
    all_each from (suc m) = each_append P (again g site k l from (l.shards from) (l.shards from).proposal) (all_again g site k l (suc from) m) (again_each from) (all_each (suc from) m)

    pub tick_each : Each P (server_tick g site k l).packets
    tick_each = all_each 0 (shards g)

-- ---- the rows

module _ (g : Setting) (site : ℕ) (k : ServerKept) (l : ServerLive) where
  -- what each row makes of its input
  pub record Rows (P : Input → Out ServerLive → Type 0) : Type 0 where
    pub idles : (i : Input) → P i (idle l)
    pub ticks : P Tick (server_tick g site k l)
    pub draws : (s : ℕ) → may_propose g (l.shards s) ≡ true → P Own (owns g site k l (Some s))
    pub answers : (from : Node) (x : Insert) (a : Answer) → replay (l.shards (shard g x.id)).learned x.id x.token ≡ Some a → P (Deliver from (Claim x)) (record { note = None; packets = reply g site x a; live = l })
    pub queues : (from : Node) (x : Insert) → P (Deliver from (Claim x)) (record { note = None; packets = []; live = with_shard g site k l (shard g x.id) (record (l.shards (shard g x.id)) { queue = (l.shards (shard g x.id)).queue ++ x ∷ [] }) })
    pub learns_of : (from : Node) (at : Place) (v : Batch) → at.slot ≡ length (l.shards at.shard).learned → P (Deliver from (Chosen at v)) (record { note = None; packets = replies g site ((l.shards at.shard).learned ++ v ∷ []) (l.shards at.shard).queue; live = with_shard g site k l at.shard (learns g site (l.shards at.shard) v) })
    pub promises : (r : ℕ) (at : Place) (b : Ballot) (o : Option (Ballot × Batch)) (p : Proposal) → (l.shards at.shard).proposal ≡ Some p → is_current g at b (l.shards at.shard) p ≡ true → P (Deliver (Replica r) (Promise at b o)) (promised g site k l at (l.shards at.shard) p (on_promise p.own p.phase r o))
    pub accepts : (r : ℕ) (at : Place) (b : Ballot) (p : Proposal) → (l.shards at.shard).proposal ≡ Some p → is_current g at b (l.shards at.shard) p ≡ true → P (Deliver (Replica r) (Accepted at b)) (accepted g site k l at (l.shards at.shard) p (on_accepted p.phase r).0 (on_accepted p.phase r).1)
    pub refuses : (r : ℕ) (at : Place) (b above : Ballot) (p : Proposal) → (l.shards at.shard).proposal ≡ Some p → is_current g at b (l.shards at.shard) p ≡ true → P (Deliver (Replica r) (Nack at b above)) (nacked g site k l at (l.shards at.shard) above)

  module _ (P : Input → Out ServerLive → Type 0) (h : Rows P) where
    own : P Own (server_own g site k l)
    own = grind (arith, first_is)

    heard : (r : ℕ) (p : Packet) → P (Deliver (Replica r) p) (from_replica g site k l r p)
    heard r (Promise at b o) = grind (arith, cond_both)
    heard r (Accepted at b) = grind (arith, cond_both)
    heard r (Nack at b above) = grind (arith, cond_both)
    heard r p = h.idles (Deliver (Replica r) p)

    gets : (from : Node) (p : Packet) → P (Deliver from p) (server_gets g site k l from p)
    gets from (Claim x) = grind arith
    gets from (Chosen at v) = grind (arith, cond_both, eqb-true, and_parts)
    gets (Replica r) p = heard r p
    gets from p = h.idles (Deliver from p)

    pub every_row : (i : Input) → P i (server_turn g site k l i)
    every_row i = grind (arith, own, gets)

-- ---- what an answer makes of a phase

pub higher_both : (P : Option (Ballot × Batch) → Type 0) (a b : Option (Ballot × Batch)) → P a → P b → P (higher a b)
higher_both P a b h i = grind arith

pub promise_cases :
    (own : Batch) (r : ℕ) (o : Option (Ballot × Batch)) (P : Phase Batch → Phase Batch × Option Batch → Type 0) → ((y : Phase Batch) → P y (y, None)) →
    ((marks : List Bool) (best : Option (Ballot × Batch)) → is_most (set marks r true) ≡ true → P (Promising marks best) (Accepting (value_for own (higher best o)) (nobody (length (set marks r true))), Some (value_for own (higher best o)))) →
    ((marks : List Bool) (best : Option (Ballot × Batch)) → is_most (set marks r true) ≡ false → P (Promising marks best) (Promising (set marks r true) (higher best o), None)) → (y : Phase Batch) → P y (on_promise own y r o)
promise_cases own r o P same sent more (Promising marks best) =
    cond_both (is_new marks r) (with_promise own (set marks r true) (higher best o)) (Promising marks best, None) (P (Promising marks best))
    (λ _. cond_both (is_most (set marks r true)) (Accepting (value_for own (higher best o)) (nobody (length (set marks r true))), Some (value_for own (higher best o))) (Promising (set marks r true) (higher best o), None) (P (Promising marks best)) (sent marks best) (more marks best))
    (λ _. same (Promising marks best))
promise_cases own r o P same sent more y = same y

pub accept_cases :
    (r : ℕ) (P : Phase Batch → Phase Batch × Option Batch → Type 0) → ((y : Phase Batch) → P y (y, None)) → ((v : Batch) (marks : List Bool) → is_most (set marks r true) ≡ true → P (Accepting v marks) (Ended, Some v)) →
    ((v : Batch) (marks : List Bool) → is_most (set marks r true) ≡ false → P (Accepting v marks) (Accepting v (set marks r true), None)) → (y : Phase Batch) → P y (on_accepted y r)
accept_cases r P same learned more (Accepting v marks) =
    cond_both (is_new marks r) (with_acceptance v (set marks r true)) (Accepting v marks, None) (P (Accepting v marks))
    (λ _. cond_both (is_most (set marks r true)) (Ended, Some v) (Accepting v (set marks r true), None) (P (Accepting v marks)) (learned v marks) (more v marks))
    (λ _. same (Accepting v marks))
accept_cases r P same learned more y = same y
