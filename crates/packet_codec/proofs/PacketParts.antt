-- What may follow each tag in a packet's spelling, and that each packet has one, which begins no other.
use Rattle.std.proofs.Common.{◌≡◌, ℕ, zero, suc, ◌+◌, ◌≤◌, List, [], ◌∷◌, ◌++◌, drop, get_or, refl, ap, arith}
use Rattle.packet_codec.proofs.Words.{IsAnswer, IsBallot, IsBatch, IsInsert, IsNumber, IsOutcome, IsPacket, IsPlace, IsPrior, Spelled, answer, ballot, batch, click, insert, number, outcome, packet, place, prior}
use Rattle.log_records.specs.Line.{IsClick}
use Rattle.packet_codec.proofs.Made.{insert_apart, ballot_apart, place_apart, batch_apart, click_apart, some_number, some_insert, some_ballot, some_place, some_batch, some_click}
use Rattle.packet_codec.proofs.Numbers.{number_apart}
use Rattle.packet_codec.proofs.PartLaws.{IsApart, IsSum, Two, Three, two, three, two_whole, three_whole, two_same, three_same}
use Rattle.packet_codec.proofs.Tagged.{answer_apart, outcome_apart, prior_apart, some_answer, some_outcome, some_prior}
use Rattle.turn_defs.specs.declared.packet.Packet.{Packet}
use Rattle.turn_defs.specs.declared.packet.Packet.TheVariants.{Join, Joined, Insert, Reply, Prepare, Promise, Nack, Accept, Accepted, Chosen}

-- the fields of the kind that so many stand before
abbrev pub Fields : ℕ → List ℕ → Type 0
Fields zero = Two number IsNumber click IsClick
Fields (suc zero) = Two number IsNumber outcome IsOutcome
Fields (suc (suc zero)) = Spelled insert IsInsert
Fields (suc (suc (suc zero))) = Two insert IsInsert answer IsAnswer
Fields (suc (suc (suc (suc zero)))) = Two place IsPlace ballot IsBallot
Fields (suc (suc (suc (suc (suc zero))))) = Three place IsPlace ballot IsBallot prior IsPrior
Fields (suc (suc (suc (suc (suc (suc zero)))))) = Three place IsPlace ballot IsBallot ballot IsBallot
Fields (suc (suc (suc (suc (suc (suc (suc zero))))))) = Three place IsPlace ballot IsBallot batch IsBatch
Fields (suc (suc (suc (suc (suc (suc (suc (suc zero)))))))) = Two place IsPlace ballot IsBallot
Fields (suc (suc (suc (suc (suc (suc (suc (suc (suc n))))))))) = Two place IsPlace batch IsBatch

pub packet_sum : IsSum 0x11 9 Fields packet IsPacket
packet_sum = record { parts = parts; made = made; some = some }
  where
    parts : (v : Packet) → IsPacket v → (n : ℕ) × (back : List ℕ) × (n ≤ 9) × Fields n back × (packet v ≡ (0x11 + n) ∷ back)
    parts (Join position c) h = (0, _, omega arith, two number IsNumber click IsClick position c h.0 h.1, refl)
    parts (Joined position o) h = (1, _, omega arith, two number IsNumber outcome IsOutcome position o h.0 h.1, refl)
    parts (Insert x) h = (2, _, omega arith, (x, h, refl), refl)
    parts (Reply x a) h = (3, _, omega arith, two insert IsInsert answer IsAnswer x a h.0 h.1, refl)
    parts (Prepare p b) h = (4, _, omega arith, two place IsPlace ballot IsBallot p b h.0 h.1, refl)
    parts (Promise p b before) h = (5, _, omega arith, three place IsPlace ballot IsBallot prior IsPrior p b before h.0 h.1 h.2, refl)
    parts (Nack p b promised) h = (6, _, omega arith, three place IsPlace ballot IsBallot ballot IsBallot p b promised h.0 h.1 h.2, refl)
    parts (Accept p b v) h = (7, _, omega arith, three place IsPlace ballot IsBallot batch IsBatch p b v h.0 h.1 h.2, refl)
    parts (Accepted p b) h = (8, _, omega arith, two place IsPlace ballot IsBallot p b h.0 h.1, refl)
    parts (Chosen p v) h = (9, _, omega arith, two place IsPlace batch IsBatch p v h.0 h.1, refl)

    made : (n : ℕ) (back : List ℕ) → n ≤ 9 → Fields n back → Spelled packet IsPacket ((0x11 + n) ∷ back)
    made zero z few s = (Join s.value s.next.0, (s.is, s.next.1), ap (λ (x : List ℕ). 0x11 ∷ x) (two_whole number IsNumber click IsClick z s))
    made (suc zero) z few s = (Joined s.value s.next.0, (s.is, s.next.1), ap (λ (x : List ℕ). 0x12 ∷ x) (two_whole number IsNumber outcome IsOutcome z s))
    made (suc (suc zero)) z few s = (Insert s.0, s.1, ap (λ (x : List ℕ). 0x13 ∷ x) s.2)
    made (suc (suc (suc zero))) z few s = (Reply s.value s.next.0, (s.is, s.next.1), ap (λ (x : List ℕ). 0x14 ∷ x) (two_whole insert IsInsert answer IsAnswer z s))
    made (suc (suc (suc (suc zero)))) z few s = (Prepare s.value s.next.0, (s.is, s.next.1), ap (λ (x : List ℕ). 0x15 ∷ x) (two_whole place IsPlace ballot IsBallot z s))
    made (suc (suc (suc (suc (suc zero))))) z few s = (Promise s.value s.next.value s.next.next.0, (s.is, s.next.is, s.next.next.1), ap (λ (x : List ℕ). 0x16 ∷ x) (three_whole place IsPlace ballot IsBallot prior IsPrior z s))
    made (suc (suc (suc (suc (suc (suc zero)))))) z few s = (Nack s.value s.next.value s.next.next.0, (s.is, s.next.is, s.next.next.1), ap (λ (x : List ℕ). 0x17 ∷ x) (three_whole place IsPlace ballot IsBallot ballot IsBallot z s))
    made (suc (suc (suc (suc (suc (suc (suc zero))))))) z few s = (Accept s.value s.next.value s.next.next.0, (s.is, s.next.is, s.next.next.1), ap (λ (x : List ℕ). 0x18 ∷ x) (three_whole place IsPlace ballot IsBallot batch IsBatch z s))
    made (suc (suc (suc (suc (suc (suc (suc (suc zero)))))))) z few s = (Accepted s.value s.next.0, (s.is, s.next.1), ap (λ (x : List ℕ). 0x19 ∷ x) (two_whole place IsPlace ballot IsBallot z s))
    made (suc (suc (suc (suc (suc (suc (suc (suc (suc zero))))))))) z few s = (Chosen s.value s.next.0, (s.is, s.next.1), ap (λ (x : List ℕ). 0x1A ∷ x) (two_whole place IsPlace batch IsBatch z s))
    made (suc (suc (suc (suc (suc (suc (suc (suc (suc (suc n)))))))))) z few s = absurd (omega arith)

    some : (n : ℕ) → n ≤ 9 → (z : List ℕ) × Fields n z
    some zero few = (_, two number IsNumber click IsClick some_number.0 some_click.0 some_number.1 some_click.1)
    some (suc zero) few = (_, two number IsNumber outcome IsOutcome some_number.0 some_outcome.0 some_number.1 some_outcome.1)
    some (suc (suc zero)) few = (insert some_insert.0, (some_insert.0, some_insert.1, refl))
    some (suc (suc (suc zero))) few = (_, two insert IsInsert answer IsAnswer some_insert.0 some_answer.0 some_insert.1 some_answer.1)
    some (suc (suc (suc (suc zero)))) few = (_, two place IsPlace ballot IsBallot some_place.0 some_ballot.0 some_place.1 some_ballot.1)
    some (suc (suc (suc (suc (suc zero))))) few = (_, three place IsPlace ballot IsBallot prior IsPrior some_place.0 some_ballot.0 some_prior.0 some_place.1 some_ballot.1 some_prior.1)
    some (suc (suc (suc (suc (suc (suc zero)))))) few = (_, three place IsPlace ballot IsBallot ballot IsBallot some_place.0 some_ballot.0 some_ballot.0 some_place.1 some_ballot.1 some_ballot.1)
    some (suc (suc (suc (suc (suc (suc (suc zero))))))) few = (_, three place IsPlace ballot IsBallot batch IsBatch some_place.0 some_ballot.0 some_batch.0 some_place.1 some_ballot.1 some_batch.1)
    some (suc (suc (suc (suc (suc (suc (suc (suc zero)))))))) few = (_, two place IsPlace ballot IsBallot some_place.0 some_ballot.0 some_place.1 some_ballot.1)
    some (suc (suc (suc (suc (suc (suc (suc (suc (suc n))))))))) few = (_, two place IsPlace batch IsBatch some_place.0 some_batch.0 some_place.1 some_batch.1)

pub packet_apart : IsApart packet IsPacket
packet_apart (Join position c) (Join position' c') s t p q e = two_same Join number IsNumber click IsClick position position' c c' s t number_apart click_apart p.0 q.0 p.1 q.1 (ap (drop 1) e)
packet_apart (Joined position o) (Joined position' o') s t p q e = two_same Joined number IsNumber outcome IsOutcome position position' o o' s t number_apart outcome_apart p.0 q.0 p.1 q.1 (ap (drop 1) e)
packet_apart (Insert x) (Insert x') s t p q e = ap Insert (insert_apart x x' s t p q (ap (drop 1) e))
packet_apart (Reply x a) (Reply x' a') s t p q e = two_same Reply insert IsInsert answer IsAnswer x x' a a' s t insert_apart answer_apart p.0 q.0 p.1 q.1 (ap (drop 1) e)
packet_apart (Prepare at b) (Prepare at' b') s t p q e = two_same Prepare place IsPlace ballot IsBallot at at' b b' s t place_apart ballot_apart p.0 q.0 p.1 q.1 (ap (drop 1) e)
packet_apart (Promise at b before) (Promise at' b' before') s t p q e = three_same Promise place IsPlace ballot IsBallot prior IsPrior at at' b b' before before' s t place_apart ballot_apart prior_apart p.0 q.0 p.1 q.1 p.2 q.2 (ap (drop 1) e)
packet_apart (Nack at b promised) (Nack at' b' promised') s t p q e = three_same Nack place IsPlace ballot IsBallot ballot IsBallot at at' b b' promised promised' s t place_apart ballot_apart ballot_apart p.0 q.0 p.1 q.1 p.2 q.2 (ap (drop 1) e)
packet_apart (Accept at b v) (Accept at' b' v') s t p q e = three_same Accept place IsPlace ballot IsBallot batch IsBatch at at' b b' v v' s t place_apart ballot_apart batch_apart p.0 q.0 p.1 q.1 p.2 q.2 (ap (drop 1) e)
packet_apart (Accepted at b) (Accepted at' b') s t p q e = two_same Accepted place IsPlace ballot IsBallot at at' b b' s t place_apart ballot_apart p.0 q.0 p.1 q.1 (ap (drop 1) e)
packet_apart (Chosen at v) (Chosen at' v') s t p q e = two_same Chosen place IsPlace batch IsBatch at at' v v' s t place_apart batch_apart p.0 q.0 p.1 q.1 (ap (drop 1) e)
packet_apart v w s t p q e = absurd (omega (arith, ap (λ (x : List ℕ). get_or x 0 0) e))

pub packet_one : (v w : Packet) → IsPacket v → IsPacket w → packet v ≡ packet w → v ≡ w
packet_one v w p q e = packet_apart v w [] [] p q (ap (λ (x : List ℕ). x ++ []) e)
