-- The bytes of a replica's note.
use Rattle.std.proofs.Common.{◌≡◌, ℕ, List, ◌++◌, length, length-append, sym, ap, ◌∙◌, arith}
use Rattle.packet_codec.specs.Notes.{note}
use Rattle.paxos_acceptor.specs.declared.notes.ReplicaNote.{ReplicaNote}

-- bytes that are a note's, with none behind them
pub left_behind : (payload rest : List ℕ) (w v : ReplicaNote) → payload ≡ note w ++ rest → payload ≡ note v → w ≡ v → (length rest ≡ 0 → ⊥) → ⊥
left_behind payload rest w v found is same some =
    let whole : note v ≡ note v ++ rest = sym is ∙ found ∙ ap (λ (x : ReplicaNote). note x ++ rest) same in
    some (omega (arith, ap length whole, length-append (note v) rest))
