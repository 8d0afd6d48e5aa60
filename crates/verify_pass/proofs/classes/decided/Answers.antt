use Rattle.std.proofs.Common.{◌≡◌, List, map, ap, ◌∙◌}
use Rattle.verify_pass.proofs.Words.{Place, same_batch, note_view, ReplicaNote, batch_at}
use Rattle.paxos_defs.specs.Decided as paxos
use Rattle.verify_pass.proofs.Whole.{know_all}
use Rattle.verify_pass.proofs.classes.decided.Goals as goal

pub returns-clause-known : goal.returns-clause-known
returns-clause-known c =
    let notes = c.args.notes.items in
    let chosen = c.in_ok-chosen.chosen in
    let found : (p : Place) → batch_at chosen p ≡ paxos.chosen same_batch (map (map note_view) notes) p = λ p. c.in_ok-chosen.ensures.batches p ∙ ap (λ (l : List (List ReplicaNote)). paxos.chosen same_batch (map (map note_view) l) p) c.deref.ensures.value in
    know_all notes chosen _ c.args.table.now found (c.in_ok-registries.ensures.known c.in_ok-chosen.ensures.last)
