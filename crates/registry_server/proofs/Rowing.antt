-- A step of one shard as a row's turn.
use Rattle.std.proofs.Common.{◌≡◌, ℕ, ◌+◌, ◌≤◌, true, List, [], ◌∷◌, ◌++◌, take, Some, None, refl, sym, ap, ◌∙◌, subst, arith, option_map, min}
use Rattle.registry_server.proofs.Words.{MOST_INSERTS, set_at, Insert, Batch, Answer, replay, batch_of, waiting, answered, nobody, Promising, Proposer, ballot_of, own_of, phase_of, Packet, Prepare, Node, To, Setting, Out, ServerKept, ServerLive, ShardState, claimed, reply, replies, may_propose, to_replicas, setting, sent, each_reply, IsShard, stepped, proposal_of, Gives, IsStep, IsAt, proposes_if, learns_behind, Station, Shard, Step, Propose, Learn, Turn}
use Rattle.registry_server.specs.declared.turn.Change.TheVariants as change
use Rattle.registry_server.proofs.Sending.{replies_each}

pub queue_is : (h : Shard) (st : ShardState) → IsShard h st → st.queue ≡ waiting h.queue
queue_is h st is = ap (λ (s : ShardState). s.queue) is.is

pub proposal_is : (h : Shard) (st : ShardState) → IsShard h st → st.proposal ≡ option_map proposal_of h.proposal
proposal_is h st is = ap (λ (s : ShardState). s.proposal) is.is

pub one_gives : (g : Setting) (site : ℕ) (l : ServerLive) (turn : Turn) (n r round : ℕ) (items : List (Node × Packet)) (step : Step) (packets : List (To × Packet)) (st : ShardState)
    → IsStep turn n r items step → sent items ≡ packets → r ≡ round → stepped g site step (l.shards n) ≡ st
    → Gives g site l turn (record { note = None; packets = packets; live = record { round = round; shards = set_at l.shards n st } })
one_gives g site l turn n r round items step packets st is es er est = grind arith

pub same_row : (g : Setting) (site : ℕ) (l : ServerLive) (turn : Turn) (a b : Out ServerLive) → a ≡ b → Gives g site l turn b → Gives g site l turn a
same_row g site l turn a b e h = subst (λ o. Gives g site l turn o) (sym e) h

module _ (g : Setting) (site : ℕ) (k : ServerKept) (l : ServerLive) (n : ℕ) (turn : Turn) where
  -- an insert that is answered
  pub replayed_gives : (x : Insert) (a : Answer) → Some a ≡ replay (l.shards n).learned x.id x.token → turn.note ≡ None → turn.change ≡ change.Nothing → sent turn.packets.items ≡ reply g site x a
      → Gives g site l turn (claimed g site k l x n (l.shards n) (replay (l.shards n).learned x.id x.token))
  replayed_gives x a e en ec ep = grind arith

  -- a value that is learned
  pub learned_gives : (h : Shard) (v : Batch) (r : ℕ) (items : List (Node × Packet)) (packets : List (To × Packet)) (told : List (Insert × Answer)) → IsAt g h n r l → IsStep turn n r items (Learn v told)
      → sent items ≡ packets ++ each_reply g site (answered (λ x. replay ((l.shards n).learned ++ v ∷ []) x.id x.token) (waiting h.queue))
      → Gives g site l turn (learns_behind g site k l n v packets)
  learned_gives h v r items packets told at is es =
      let q : waiting h.queue ≡ (l.shards n).queue = sym (queue_is h (l.shards n) at.stands) in
      let vs : List Batch = (l.shards n).learned ++ v ∷ [] in
      one_gives g site l turn n r l.round items (Learn v told) _ _ is
      (es ∙ ap (λ (ps : List (To × Packet)). packets ++ ps) (replies_each g site vs (waiting h.queue) ∙ ap (λ (xs : List Insert). replies g site vs xs) q))
      (sym at.round) refl

module _ (t : Station) (g : Setting) (k : ServerKept) (l : ServerLive) (n : ℕ) (turn : Turn) where
  pub proposed_gives : (h : Shard) (r e : ℕ) (p : Proposer) (items : List (Node × Packet)) → t.config.batch ≤ MOST_INSERTS → IsAt (setting t g) h n r l → e ≡ k.epoch → true ≡ may_propose (setting t g) (l.shards n)
      → IsStep turn n (r + 1) items (Propose p)
      → sent items ≡ to_replicas t.config.replicas (Prepare (record { shard = n; slot = h.next }) (record { round = r + 1; epoch = e; site = t.site }))
      → ballot_of p ≡ record { round = r + 1; epoch = e; site = t.site }
      → own_of p ≡ batch_of t.config.horizon (take (min t.config.batch MOST_INSERTS) (waiting h.queue))
      → phase_of p ≡ Promising (nobody t.config.replicas) None
      → Gives (setting t g) t.site l turn (proposes_if (setting t g) t.site k l n)
  proposed_gives h r e p items few at ee may is es eb eo ep = grind (arith, queue_is, same_row)
