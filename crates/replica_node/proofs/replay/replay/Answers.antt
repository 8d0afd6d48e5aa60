use Rattle.std.proofs.Common.{◌≡◌, List, [], ◌∷◌, ◌++◌, ◌+◌, take, get_or, ap, sym, ◌∙◌, subst, arith}
use Rattle.replica_node.proofs.Words.{take_more, take_all, ReplicaNote, ReplicaKept, Knows, kept_of, with_note}
use Rattle.replica_node.proofs.Noting.{knows_note, kept_push}
use Rattle.replica_node.proofs.replay.replay.Goals as goal

pub loop-note-preserved : goal.loop-note-preserved
loop-note-preserved c =
    let notes = c.args.notes.now in
    let k = c.loop-note.note-index in
    let copy = c.in_ok-copy.copy in
    let known : Knows c.keep.new.self (with_note (kept_of (take k notes)) copy) =
    knows_note c.make_room.new.self c.keep.new.self (kept_of (take k notes)) copy (λ p. c.make_room.ensures.same p ∙ c.loop-note.invariant p) c.keep.ensures
    in
    let same : copy ≡ get_or notes k c.note-item.result = c.in_ok-copy.ensures ∙ c.note-item.is in
    let one_more : with_note (kept_of (take k notes)) copy ≡ kept_of (take (k + 1) notes) =
    kept_push (take k notes) copy
    ∙ ap (λ (x : ReplicaNote). kept_of (take k notes ++ x ∷ [])) same
    ∙ ap (λ (ns : List ReplicaNote). kept_of ns) (sym (take_more notes k c.note-item.result (omega arith)))
    in
    subst (λ (j : ReplicaKept). Knows c.keep.new.self j) one_more known

pub returns : goal.returns
returns c = subst (λ (ns : List ReplicaNote). Knows c.loop-note.acceptor (kept_of ns)) (take_all c.loop-note.note-index c.args.notes.now (omega (arith, c.loop-note-test.false))) c.loop-note.invariant
