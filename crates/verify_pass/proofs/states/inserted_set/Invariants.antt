use Rattle.std.proofs.Common.{◌≡◌, ℕ, ◌<◌, true, List, is_some}
use Rattle.verify_pass.proofs.Words.{contains, IsStrictlySortedBy, EventId, id_cmp, Batch, first_insert, slots, EndsBy, IsFront}
use Rattle.verify_pass.proofs.states.inserted_set.Given as goal

-- the ids of the shards so far are added
abbrev pub invariant-loop-shard : goal.invariant-loop-shard
invariant-loop-shard l = record {
  rising : IsStrictlySortedBy id_cmp l.ids.keys;
  each : EndsBy l.chosen → (s : ℕ) (applied : List Batch) (i : EventId) → s < l.shard → IsFront (slots l.chosen s) applied → is_some (first_insert applied i) ≡ true → contains id_cmp l.ids i ≡ true;
}
