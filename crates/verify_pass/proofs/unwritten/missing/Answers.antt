use Rattle.std.proofs.Common.{◌≡◌, ◌<◌, ℕ, not, [], List, map, is_some, ap, sym, ◌∙◌, subst, filter}
use Rattle.verify_pass.proofs.Words.{IsStrictlySortedBy, IsStrictlySortedBy-filter, and_parts, EventId, id_cmp, Place, same_batch, note_view, ReplicaNote, Batch, TimedRegistry, KnowAll, flat_map, holder, shard_of, batch_at, all_pairs, decided_for, first_pair, is_missing, missing_id, unboxed, unwritten_line}
use Rattle.paxos_defs.specs.Decided as paxos
use Rattle.verify_pass.proofs.Joining.{missing_ids}
use Rattle.verify_pass.proofs.Kept.{exactly}
use Rattle.verify_pass.proofs.Shards.{held_inserted}
use Rattle.verify_pass.proofs.Whole.{decided_front, know_all}
use Rattle.verify_pass.proofs.unwritten.missing.Goals as goal

-- the ids that are left are the missing ones of those that were inserted
left_are : (c : goal.After-drop-notes-2) → c.in_ok-left.left.items ≡ filter (λ i. is_missing c.args.journals c.args.table.now i) c.in_ok-ids.ids.items
left_are c =
    let js = c.args.journals in
    let table = c.args.table.now in
    let chosen = c.in_ok-chosen.chosen in
    let ids = c.in_ok-ids.ids.items in
    let batches : EventId → List Batch = λ i. decided_for js table i in
    let found : (p : Place) → batch_at chosen p ≡ paxos.chosen same_batch (map (map note_view) js.notes.items) p = λ p. c.in_ok-chosen.ensures.batches p ∙ ap (λ (l : List (List ReplicaNote)). paxos.chosen same_batch (map (map note_view) l) p) c.deref.ensures.value in
    let known : KnowAll c.in_ok-registries.registries.items table batches = know_all js.notes.items chosen c.in_ok-registries.registries.items table found (c.in_ok-registries.ensures.known c.in_ok-chosen.ensures.last) in
    c.in_ok-left.ensures
    ∙ ap (flat_map missing_id) (ap unboxed c.deref-4.ensures.value ∙ c.join_all.ensures batches [] ids c.in_ok-ids.ensures.rising
    (c.in_ok-lines.ensures batches (subst (λ (rs : List TimedRegistry). KnowAll rs table batches) (sym c.deref-3.ensures.value) known) ∙ ap (map (λ i. unwritten_line (batches i) i)) c.deref-2.ensures.value))
    ∙ missing_ids batches (all_pairs js) ids

pub returns-clause-rising : goal.returns-clause-rising
returns-clause-rising c = subst (IsStrictlySortedBy id_cmp) (sym (left_are c)) (IsStrictlySortedBy-filter id_cmp (λ i. is_missing c.args.journals c.args.table.now i) c.in_ok-ids.ids.items c.in_ok-ids.ensures.rising)

pub returns-clause-exactly : goal.returns-clause-exactly
returns-clause-exactly c =
    let js = c.args.journals in
    let table = c.args.table.now in
    let chosen = c.in_ok-chosen.chosen in
    let found : (p : Place) → batch_at chosen p ≡ paxos.chosen same_batch (map (map note_view) js.notes.items) p = λ p. c.in_ok-chosen.ensures.batches p ∙ ap (λ (l : List (List ReplicaNote)). paxos.chosen same_batch (map (map note_view) l) p) c.deref.ensures.value in
    let below : (i : EventId) → shard_of table i < c.shards-2.result = λ i. subst (λ (n : ℕ). shard_of table i < n) (sym c.shards-2.ensures.count) (c.each_has_a_shard.ensures i) in
    exactly c.in_ok-left.left.items c.in_ok-ids.ids.items (λ i. is_missing js table i) (left_are c)
    (λ i is.
    c.in_ok-ids.ensures.each c.in_ok-chosen.ensures.last (shard_of table i) (decided_for js table i) i (below i) (decided_front js.notes.items chosen (shard_of table i) found)
    (held_inserted (decided_for js table i) i (and_parts (is_some (holder (decided_for js table i) i)) (not (is_some (first_pair (all_pairs js) i))) is).0))
