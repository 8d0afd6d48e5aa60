-- Each row of a registry server keeps its facts.
use Rattle.std.proofs.Common.{◌≡◌, ℕ, suc, List, [], ◌∷◌, ◌++◌, length, take, Some, None, refl, sym, ap, subst, arith, Option, slice_get}
use Rattle.photon_model.proofs.Words.{goes_on, each_at, Ballot, Insert, Batch, Phase, on_promise, on_accepted, Each, Begins, Answer, Granted, Duplicate, TooOld, replay, Setting, shard, Packet, Prepare, Accept, Place, To, Input, ServerKept, ServerLive, ShardState, Proposal, replies, unanswered, learns, with_shard, promised, accepted, server_turn, server_start, some_same, none_some, each_append, at_set, Replays, replay_means, granted_stays, bound_stays, Known, values_of, IsInsertOf, HoldsOfReply, HoldsOfBatch, HoldsOfBest, HoldsOfPhase, HoldsOf, HoldsOfInput, HoldsOfProposal, ShardHolds, ServerHolds, PacketsHold, ServerKeeps, IsChosenNow}
use Rattle.photon_model.proofs.ServerRows.{next_at, current_at, replicas_each, reply_each, replies_each, tick_each, every_row, higher_both, promise_cases, accept_cases}

-- a list that begins another goes on with what stands there
begins_next : (xs ys : List Batch) (v : Batch) → Begins xs ys → slice_get ys (length xs) ≡ Some v → Begins (xs ++ v ∷ []) ys
begins_next [] (y ∷ ys) v b e = (ys, ap (λ (z : Batch). z ∷ ys) (some_same y v e))
begins_next (x ∷ xs) (y ∷ ys) v b e = grind (arith, begins_next xs ys v)
begins_next _ [] v b e = none_some v e

take_each : (P : Insert → Type 0) (m : ℕ) (xs : List Insert) → Each P xs → Each P (take m xs)
take_each P (suc m) (x ∷ xs) h = (h.0, take_each P m xs h.1)
take_each P _ _ h = tt

module _ (g : Setting) (n : Known) where
  -- an answer of what was learned holds of all that is decided
  replays_hold : (vs : List Batch) (x : Insert) (a : Answer) → Begins vs (values_of g n x.id) → replay vs x.id x.token ≡ Some a → HoldsOfReply g n x a
  replays_hold vs x a b e = go a (replay_means vs x.id x.token a e)
    where
      go : (a : Answer) → Replays vs x.id x.token a → HoldsOfReply g n x a
      go Granted h = granted_stays vs (values_of g n x.id) x.id x.token b h
      go (Duplicate t) h = (h.0, granted_stays vs (values_of g n x.id) x.id t b h.1)
      go (TooOld c) h = (h.0, let q = h.1 in let p = bound_stays vs (values_of g n x.id) b in omega arith)

  module _ (site : ℕ) where
    replies_hold : (s : ℕ) (vs : List Batch) (xs : List Insert) → Begins vs (n.values s) → Each (IsInsertOf g n s) xs → PacketsHold g n (replies g site vs xs)
    replies_hold s vs xs b h =
        replies_each g site (λ (a : To × Packet). HoldsOf g n a.1) vs xs
        (λ x a m e t. replays_hold vs x a (subst (λ t. Begins vs (n.values t)) (sym (each_at (IsInsertOf g n s) xs h x m).0) b) e)

    unanswered_each : (P : Insert → Type 0) (vs : List Batch) (xs : List Insert) → Each P xs → Each P (unanswered g site vs xs)
    unanswered_each P vs [] h = tt
    unanswered_each P vs (x ∷ xs) h = grind (arith, unanswered_each P vs xs h.1)

    -- the value at the next slot is learned
    learns_holds : (s : ℕ) (st : ShardState) (v : Batch) → ShardHolds g n s st → slice_get (n.values s) (length st.learned) ≡ Some v → ShardHolds g n s (learns g site st v)
    learns_holds s st v h e = record { learned = begins_next st.learned (n.values s) v h.learned e; queue = unanswered_each (IsInsertOf g n s) (st.learned ++ v ∷ []) st.queue h.queue; proposal = tt }

    module _ (k : ServerKept) (l : ServerLive) (holds : ServerHolds g n l) where
      stood : (s : ℕ) (p : Proposal) → (l.shards s).proposal ≡ Some p → HoldsOfProposal g n s (Some p)
      stood s p e = subst (HoldsOfProposal g n s) e (holds s).proposal

      -- a proposal goes on to a phase
      goes : (s : ℕ) (p : Proposal) (phase : Phase Batch) → HoldsOfBatch g n s p.own → HoldsOfPhase g n s phase → ServerHolds g n (goes_on g site k l s (l.shards s) p phase)
      goes s p phase own h = at_set (ShardHolds g n) l.shards s _ (record { learned = (holds s).learned; queue = (holds s).queue; proposal = (own, h) }) holds

      abbrev OfTurn : ℕ → Phase Batch × Option Batch → Type 0
      OfTurn s (phase, None) = HoldsOfPhase g n s phase
      OfTurn s (phase, Some v) = HoldsOfPhase g n s phase × HoldsOfBatch g n s v

      promise_turn : (s : ℕ) (own : Batch) (phase : Phase Batch) (r : ℕ) (o : Option (Ballot × Batch)) → HoldsOfBatch g n s own → HoldsOfPhase g n s phase → HoldsOfBest g n s o → OfTurn s (on_promise own phase r o)
      promise_turn s own phase r o h i q = grind (arith, promise_cases, higher_both)

      promise_keeps : (at : Place) (p : Proposal) → HoldsOfBatch g n at.shard p.own → (t : Phase Batch × Option Batch) → OfTurn at.shard t → ServerKeeps g n (promised g site k l at (l.shards at.shard) p t)
      promise_keeps at p own (phase, None) i = record { live = goes at.shard p phase own i; packets = tt }
      promise_keeps at p own (phase, Some v) i = record { live = goes at.shard p phase own i.0; packets = replicas_each g site (λ (a : To × Packet). HoldsOf g n a.1) (Accept at p.ballot v) (λ r lt. i.1) }

      -- the value at the next slot is learned
      learned_holds : (s : ℕ) (v : Batch) → slice_get (n.values s) (length (l.shards s).learned) ≡ Some v → ServerHolds g n (with_shard g site k l s (learns g site (l.shards s) v)) × PacketsHold g n (replies g site ((l.shards s).learned ++ v ∷ []) (l.shards s).queue)
      learned_holds s v e =
          let h = learns_holds s (l.shards s) v (holds s) e in
          (at_set (ShardHolds g n) l.shards s _ h holds, replies_hold s ((l.shards s).learned ++ v ∷ []) (l.shards s).queue h.learned (holds s).queue)

      accepted_keeps : (at : Place) (p : Proposal) → HoldsOfBatch g n at.shard p.own → (phase : Phase Batch) → HoldsOfPhase g n at.shard phase → (o : Option Batch) → (at.slot ≡ length (l.shards at.shard).learned) → ((v : Batch) → o ≡ Some v → slice_get (n.values at.shard) (length (l.shards at.shard).learned) ≡ Some v) → ServerKeeps g n (accepted g site k l at (l.shards at.shard) p phase o)
      accepted_keeps at p own phase i None slot w = record { live = goes at.shard p phase own i; packets = tt }
      accepted_keeps at p own phase i (Some v) slot w = let h = learned_holds at.shard v (w v refl) in record { live = h.0; packets = (subst (λ t. slice_get (n.values at.shard) t ≡ Some v) (sym slot) (w v refl), h.1) }

      pub server_keeps : (i : Input) → HoldsOfInput g n i → IsChosenNow g n l i → ServerKeeps g n (server_turn g site k l i)
      server_keeps =
          every_row g site k l (λ i o. HoldsOfInput g n i → IsChosenNow g n l i → ServerKeeps g n o)
          (record {
            idles = λ i x c. record { live = holds; packets = tt };
            ticks = λ x c. record {
              live = λ s. record { learned = (holds s).learned; queue = (holds s).queue; proposal = (holds s).proposal };
              packets = tick_each g site (λ (a : To × Packet). HoldsOf g n a.1) k l (λ s p marks best e f i lt. tt) (λ s p v marks e f i lt. subst (HoldsOfPhase g n s) f (stood s p e).1);
            };
            draws = λ s may x c. record {
              live = at_set (ShardHolds g n) l.shards s _ (record { learned = (holds s).learned; queue = (holds s).queue; proposal = (take_each (IsInsertOf g n s) g.config.batch (l.shards s).queue (holds s).queue, tt) }) holds;
              packets = replicas_each g site (λ (a : To × Packet). HoldsOf g n a.1) (Prepare (next_at s (l.shards s)) (record { round = suc l.round; epoch = k.epoch; site = site })) (λ i lt. tt);
            };
            answers = λ from x a e m c. record { live = holds; packets = reply_each g site (λ (b : To × Packet). HoldsOf g n b.1) x a (λ t. replays_hold (l.shards (shard g x.id)).learned x a (holds (shard g x.id)).learned e) };
            queues = λ from x m c. let h = holds (shard g x.id) in record {
              live = at_set (ShardHolds g n) l.shards (shard g x.id) _ (record { learned = h.learned; queue = each_append (IsInsertOf g n (shard g x.id)) (l.shards (shard g x.id)).queue (x ∷ []) h.queue ((refl, m), tt); proposal = h.proposal }) holds;
              packets = tt;
            };
            learns_of = λ from at v e x c. let h = learned_holds at.shard v (subst (λ t. slice_get (n.values at.shard) t ≡ Some v) e x) in record { live = h.0; packets = h.1 };
            promises = λ r at b o p e t x c. let h = stood at.shard p e in promise_keeps at p h.0 (on_promise p.own p.phase r o) (promise_turn at.shard p.own p.phase r o h.0 h.1 x);
            accepts = λ r at b p e t x c. let h = stood at.shard p e in
                accepted_keeps at p h.0 (on_accepted p.phase r).0 (accept_cases r (λ y u. HoldsOfPhase g n at.shard y → HoldsOfPhase g n at.shard u.0) (λ y z. z) (λ v marks most z. tt) (λ v marks few z. z) p.phase h.1) (on_accepted p.phase r).1
                (ap (λ (q : Place). q.slot) (current_at g at b (l.shards at.shard) p t).0) (λ v q. c at b r p v refl e t q);
            refuses = λ r at b above p e t x c. record { live = at_set (ShardHolds g n) l.shards at.shard _ (record { learned = (holds at.shard).learned; queue = (holds at.shard).queue; proposal = tt }) holds; packets = tt };
          })

pub server_start_keeps : (g : Setting) (n : Known) (k : ServerKept) → ServerKeeps g n (server_start k)
server_start_keeps g n k = record { live = λ s. record { learned = (n.values s, refl); queue = tt; proposal = tt }; packets = tt }
