-- What an acceptor knows after a note more, and its turns as rows.
use Rattle.std.proofs.Common.{◌≡◌, List, [], ◌∷◌, ◌++◌, Option, sym, ap, ◌∙◌, arith, option_map}
use Rattle.replica_node.proofs.Words.{map-append, Batch, Place, Vote, promise, acceptance, cell_noted, ReplicaNote, Promised, Accepted, Acceptor, place_of, note_view, note_for, cell_with, BallotNote, Setting, Packet, Node, Turn, ReplicaKept, with_note, cell_at, note_at, says, IsRow, Knows, noted, kept_of}
use Rattle.paxos_acceptor.specs.Cells as cells

cell_after_note : (k : ReplicaKept) (note : ReplicaNote) (p : Place) → cell_with note p (cell_at k p) ≡ cell_at (with_note k note) p
cell_after_note k (Promised shard slot b) p = sym (cell_noted p k.notes (place_of shard slot) (promise b))
cell_after_note k (Accepted shard slot b v) p = sym (cell_noted p k.notes (place_of shard slot) (acceptance b v))

-- an acceptor that keeps a note knows what the notes with it say
pub knows_note : (old new : Acceptor) (k : ReplicaKept) (note : ReplicaNote) → Knows old k → ((p : Place) → cells.cell_at new p ≡ cell_with note p (cells.cell_at old p)) → Knows new (with_note k note)
knows_note old new k note before after p = after p ∙ ap (cell_with note p) (before p) ∙ cell_after_note k note p

pub kept_push : (notes : List ReplicaNote) (note : ReplicaNote) → with_note (kept_of notes) note ≡ kept_of (notes ++ note ∷ [])
kept_push notes note = ap (λ (ns : List BallotNote). record { notes = ns }) (sym (map-append note_view notes (note ∷ [])))

-- a turn with this vote's note and this packet has the row's
pub says_row : (g : Setting) (to : Node) (at : Place) (x : Option (Vote Batch)) (p q : Packet) (turn : Turn) → turn.note ≡ option_map (note_for at.shard at.slot) x → turn.packets.items ≡ (to, q) ∷ [] → q ≡ p → IsRow g (says to p (note_at at x)) turn
says_row g to at x p q turn note sent same = grind (arith, noted)
