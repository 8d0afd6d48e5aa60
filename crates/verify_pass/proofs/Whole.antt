-- What was found is what is decided.
use Rattle.std.proofs.Common.{◌≡◌, ℕ, List, Some, map, arith, slice_get}
use Rattle.verify_pass.proofs.Words.{Place, IsExact, decided_each, decided_longest, same_batch, same_batch-true, same_batch-refl, note_view, ReplicaNote, slots, batch_at, IsFront, IsWhole, KnowAll, Chosen, ShardRow, TimedRegistry, decided, shard_of}
use Rattle.paxos_defs.specs.Decided as paxos

exact : IsExact same_batch
exact = record { true_only = same_batch-true; itself = same_batch-refl }

pub decided_front : (js : List (List ReplicaNote)) (chosen : Chosen) (s : ℕ) → ((p : Place) → batch_at chosen p ≡ paxos.chosen same_batch (map (map note_view) js) p) → IsFront (slots chosen s) (paxos.decided same_batch (map (map note_view) js) s)
decided_front js chosen s found = grind (arith, decided_each, exact, decided_longest)

pub know_all : (js : List (List ReplicaNote)) (chosen : Chosen) (registries : List TimedRegistry) (table : List ShardRow) → ((p : Place) → batch_at chosen p ≡ paxos.chosen same_batch (map (map note_view) js) p)
    → ((s : ℕ) (state : TimedRegistry) → slice_get registries s ≡ Some state → IsWhole (slots chosen s) state) → KnowAll registries table (λ i. decided same_batch (map (map note_view) js) (shard_of table i))
know_all js chosen registries table found whole = λ i state at. whole (shard_of table i) state at (decided same_batch (map (map note_view) js) (shard_of table i)) (decided_front js chosen (shard_of table i) found)
