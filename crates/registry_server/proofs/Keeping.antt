-- What each step leaves in a shard.
use Rattle.std.proofs.Common.{◌≡◌, ℕ, ◌+◌, false, List, [], ◌∷◌, ◌++◌, None, arith}
use Rattle.registry_server.proofs.Words.{length-append, Insert, Batch, Answer, replay, TimedRegistry, BatchQueue, waiting, left_of, replays, Setting, ShardState, unanswered, IsShard, stepped, put_last, Shard, Queue, Learn}
use Rattle.id_expiry.specs.Timed.{Knows}
use Rattle.registry_server.proofs.Rowing.{queue_is, proposal_is}
use Rattle.registry_server.proofs.Sending.{unanswered_left}
use Rattle.registry_server.proofs.Unanswered.{none_left, put_unanswered}

module _ (g : Setting) (site : ℕ) (h : Shard) (st : ShardState) (is : IsShard h st) where
  pub queue_kept : (x : Insert) (q : BatchQueue) → replays st.learned x ≡ None → waiting q ≡ put_last (waiting h.queue) x → IsShard (record h { queue = q }) (stepped g site (Queue x) st)
  queue_kept x q unknown e = grind (arith, put_unanswered, waiting, put_last, queue_is, proposal_is)

  pub learn_kept : (v : Batch) (told : List (Insert × Answer)) (next : ℕ) (registry : TimedRegistry) (q : BatchQueue) → next ≡ h.next + 1 → Knows registry (st.learned ++ v ∷ []) → waiting q ≡ left_of (λ x. replay (st.learned ++ v ∷ []) x.id x.token) (waiting h.queue)
      → IsShard (record { next = next; registry = registry; queue = q; proposal = None; held = false }) (stepped g site (Learn v told) st)
  learn_kept v told next registry q en known e = grind (arith, length-append, unanswered, waiting, queue_is, unanswered_left, none_left)
