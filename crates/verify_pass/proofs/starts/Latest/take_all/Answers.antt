use Rattle.std.proofs.Common.{List, [], ◌∷◌, ◌++◌, map, take, ap, sym, ◌∙◌, arith}
use Rattle.verify_pass.proofs.Words.{fold, take_more, note_view, ReplicaNote, Latest, batches_in, batches_of, taken}
use Rattle.verify_pass.proofs.Starting.{notes_more}
use Rattle.verify_pass.proofs.starts.Latest.take_all.Goals as goal

pub loop-note-preserved : goal.loop-note-preserved
loop-note-preserved c =
    let ns = c.args.notes.now in
    let k = c.loop-note.note-index in
    let n = c.note-item.result in
    let start = c.args.start in
    c.take_note.ensures
    ∙ ap (λ (l : Latest). fold (taken start) l (batches_of (note_view n))) c.loop-note.invariant
    ∙ notes_more start c.args.self.now (take k ns) n
    ∙ ap (λ (l : List ReplicaNote). fold (taken start) c.args.self.now (batches_in (map note_view l))) (ap (λ (y : ReplicaNote). take k ns ++ y ∷ []) c.note-item.is ∙ sym (take_more ns k n (omega arith)))
