-- A cell after one note more.
use Rattle.std.proofs.Common.{◌≡◌, List, [], ◌∷◌, ◌++◌, map, cond, sym, ap, ◌∙◌}
use Rattle.std.proofs.lemmas.List.{map-append}
use Rattle.registry_state.specs.declared.Batch.{Batch}
use Rattle.paxos_defs.specs.declared.Place.{Place}
use Rattle.paxos_defs.specs.Notes.{is_place, Note, promise, acceptance, Cell, cell_after, cell_of, votes_at}
use Rattle.paxos_defs.proofs.Places.{cell_noted}
use Rattle.paxos_acceptor.specs.declared.notes.ReplicaNote.{ReplicaNote}
use Rattle.paxos_acceptor.specs.declared.notes.ReplicaNote.TheVariants.{Promised, Accepted}
use Rattle.paxos_acceptor.specs.Cells.{place_of, note_place, vote_of, note_view}

-- what `keep` says, in the terms of the notes
noted : (notes : List (Note Batch)) (note : ReplicaNote) (p : Place) → cond (is_place (note_place note) p) (cell_after (cell_of (votes_at p notes)) (vote_of note)) (cell_of (votes_at p notes)) ≡ cell_of (votes_at p (notes ++ note_view note ∷ []))
noted notes (Promised shard slot b) p = sym (cell_noted p notes (place_of shard slot) (promise b))
noted notes (Accepted shard slot b v) p = sym (cell_noted p notes (place_of shard slot) (acceptance b v))

pub replayed : (notes : List ReplicaNote) (note : ReplicaNote) (p : Place) (old new : Cell Batch) → old ≡ cell_of (votes_at p (map note_view notes)) → new ≡ cond (is_place (note_place note) p) (cell_after old (vote_of note)) old → new ≡ cell_of (votes_at p (map note_view (notes ++ note ∷ [])))
replayed notes note p old new before after =
    after
    ∙ ap (λ (c : Cell Batch). cond (is_place (note_place note) p) (cell_after c (vote_of note)) c) before
    ∙ noted (map note_view notes) note p
    ∙ ap (λ (ns : List (Note Batch)). cell_of (votes_at p ns)) (sym (map-append note_view notes (note ∷ [])))
