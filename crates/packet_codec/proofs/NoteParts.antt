-- A replica's notes.
use Rattle.std.proofs.Common.{◌≡◌, ℕ, zero, suc, ◌+◌, ◌≤◌, List, ◌∷◌, length, refl, ap, arith}
use Rattle.packet_codec.proofs.Words.{Batch, IsBallot, IsBatch, IsPlace, MOST_INSERTS, Spelled, ballot, batch, place}
use Rattle.paxos_acceptor.specs.declared.notes.ReplicaNote.{ReplicaNote}
use Rattle.paxos_acceptor.specs.declared.notes.ReplicaNote.TheVariants.{Promised, Accepted}
use Rattle.paxos_acceptor.specs.Cells.{place_of}
use Rattle.packet_codec.specs.Notes.{note, IsNote}
use Rattle.packet_codec.proofs.Counts.{batch_room}
use Rattle.packet_codec.proofs.Made.{batch_apart, some_place, some_ballot, some_batch}
use Rattle.packet_codec.proofs.PartLaws.{IsApart, IsSum, Two, Three, two, three, two_whole, three_whole}

abbrev pub Noted : ℕ → List ℕ → Type 0
Noted zero = Two place IsPlace ballot IsBallot
Noted (suc n) = Three place IsPlace ballot IsBallot batch IsBatch

pub note_sum : IsSum 7 1 Noted note IsNote
note_sum = record { parts = parts; made = made; some = some }
  where
    parts : (x : ReplicaNote) → IsNote x → (n : ℕ) × (back : List ℕ) × (n ≤ 1) × Noted n back × (note x ≡ (7 + n) ∷ back)
    parts (Promised m n b) h = (0, _, omega arith, two place IsPlace ballot IsBallot (place_of m n) b h.0 h.1, refl)
    parts (Accepted m n b v) h = (1, _, omega arith, three place IsPlace ballot IsBallot batch IsBatch (place_of m n) b v h.0 h.1 h.2, refl)

    made : (n : ℕ) (back : List ℕ) → n ≤ 1 → Noted n back → Spelled note IsNote ((7 + n) ∷ back)
    made zero z few s = (Promised s.value.shard s.value.slot s.next.0, (s.is, s.next.1), ap (λ (x : List ℕ). 7 ∷ x) (two_whole place IsPlace ballot IsBallot z s))
    made (suc zero) z few s = (Accepted s.value.shard s.value.slot s.next.value s.next.next.0, (s.is, s.next.is, s.next.next.1), ap (λ (x : List ℕ). 8 ∷ x) (three_whole place IsPlace ballot IsBallot batch IsBatch z s))
    made (suc (suc n)) z few s = absurd (omega arith)

    some : (n : ℕ) → n ≤ 1 → (z : List ℕ) × Noted n z
    some zero few = (_, two place IsPlace ballot IsBallot some_place.0 some_ballot.0 some_place.1 some_ballot.1)
    some (suc n) few = (_, three place IsPlace ballot IsBallot batch IsBatch some_place.0 some_ballot.0 some_batch.0 some_place.1 some_ballot.1 some_batch.1)

pub note_apart : IsApart note IsNote
note_apart h k s t p q e = grind (arith, batch_apart)

pub some_note : (x : ReplicaNote) × IsNote x
some_note = (Promised some_place.0.shard some_place.0.slot some_ballot.0, (some_place.1, some_ballot.1))

pub note_room : (b : Batch) → length b.inserts ≤ MOST_INSERTS → 23 + length (batch b) ≤ 1952
note_room b few = let room = batch_room b few in omega arith
