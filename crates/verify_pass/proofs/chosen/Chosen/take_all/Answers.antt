use Rattle.std.proofs.Common.{ℕ, List, [], ◌∷◌, ◌++◌, take, ap, sym, ◌∙◌, append_assoc, arith}
use Rattle.verify_pass.proofs.Words.{take_more, Ballot, Batch, ReplicaNote, casts, casts_at}
use Rattle.verify_pass.proofs.Groups.{notes_push}
use Rattle.verify_pass.proofs.chosen.Chosen.take_all.Goals as goal

pub loop-note-preserved : goal.loop-note-preserved
loop-note-preserved c =
    let items = c.args.notes.now in
    let k = c.loop-note.note-index in
    let x = c.note-item.result in
    let r = c.args.replica in
    record {
      casts = λ p.
          let old = casts_at c.args.self.now p in
          c.in_ok-take_note.ensures.casts p
          ∙ ap (λ (cs : List (ℕ × (Ballot × Batch))). cs ++ casts r (x ∷ []) p) (c.loop-note.invariant.casts p)
          ∙ append_assoc old (casts r (take k items) p) (casts r (x ∷ []) p)
          ∙ ap (λ (cs : List (ℕ × (Ballot × Batch))). old ++ cs) (sym (notes_push r (take k items) x p))
          ∙ ap (λ (ns : List ReplicaNote). old ++ casts r ns p) (ap (λ (n : ReplicaNote). take k items ++ n ∷ []) c.note-item.is ∙ sym (take_more items k x (omega arith)));
      last = λ h. c.in_ok-take_note.ensures.last (c.loop-note.invariant.last h);
      replicas = c.take_note.ensures.replicas ∙ c.loop-note.invariant.replicas;
    }
