-- How many bytes a log has at most.
use Rattle.std.proofs.Common.{◌≡◌, ℕ, zero, suc, ◌+◌, ◌*◌, ◌/◌, ◌%◌, ◌^◌, ◌<◌, ◌≤◌, ◌==◌, List, [], ◌∷◌, ◌++◌, map, length, decimal, ap, ◌∙◌, arith}
use Rattle.std.specs.List.{range_with_len}
use Rattle.std.proofs.lemmas.Bool.{cond_both}
use Rattle.std.proofs.lemmas.Fmt.{length-decimal-le}
use Rattle.std.proofs.lemmas.List.{length-append}
use Rattle.std.proofs.Math.Nat.{suc-mul}
use Rattle.event_id.specs.declared.id.EventId.{EventId}
use Rattle.event_id.specs.EventId.{dot, colon, dotted, spell}
use Rattle.log_records.specs.Line.{query_line, click_line, space}
use Rattle.log_records.specs.Log.{line_feed, whole}
use Rattle.bulk_logs.specs.Bulk.{drawn, query_id, click_id, click_micros, told_id, query_made, click_made, query_at, click_at, query_log, click_log}
use Rattle.bulk_logs.proofs.Growing.{grown}
use Rattle.bulk_logs.proofs.Valid.{drawn_low}

-- an id at an address like 10.0.1.15
spell_room : (id : EventId) → id.ip / 2 ^ 24 < 100 → id.ip / 2 ^ 16 % 256 < 10 → id.ip / 2 ^ 8 % 256 < 10 → id.ip % 256 < 100 → id.pid < 100 → id.micros < 100000000000 → length (spell id) ≤ 24
unfolding spell dotted
spell_room id ha hb hc hd hp hm =
    let a = decimal (id.ip / 2 ^ 24) in
    let b = decimal (id.ip / 2 ^ 16 % 256) in
    let c = decimal (id.ip / 2 ^ 8 % 256) in
    let d = decimal (id.ip % 256) in
    let p = decimal id.pid in
    let m = decimal id.micros in
    omega (
      arith,
      length-append (a ++ dot ∷ (b ++ dot ∷ (c ++ dot ∷ d))) (colon ∷ (p ++ colon ∷ m)),
      length-append a (dot ∷ (b ++ dot ∷ (c ++ dot ∷ d))),
      length-append b (dot ∷ (c ++ dot ∷ d)),
      length-append c (dot ∷ d),
      length-append p (colon ∷ m),
      length-decimal-le 2 (id.ip / 2 ^ 24) (omega arith) (omega arith) (omega arith),
      length-decimal-le 1 (id.ip / 2 ^ 16 % 256) (omega arith) (omega arith) (omega arith),
      length-decimal-le 1 (id.ip / 2 ^ 8 % 256) (omega arith) (omega arith) (omega arith),
      length-decimal-le 2 (id.ip % 256) (omega arith) (omega arith) (omega arith),
      length-decimal-le 2 id.pid (omega arith) (omega arith) (omega arith),
      length-decimal-le 11 id.micros (omega arith) (omega arith) (omega arith),
    )

query_id_room : (k one other : ℕ) → k < 2 ^ 32 → length (spell (query_id k one other)) ≤ 24
query_id_room k one other lt = spell_room (query_id k one other) (omega arith) (omega arith) (omega arith) (omega arith) (omega arith) (omega arith)

micros_room : (k : ℕ) → k < 2 ^ 32 → click_micros k < 100000000000
micros_room k lt = cond_both (k % 10 == 4) (500000 + k) (2000000 + 10 * k) (λ m. m < 100000000000) (λ _. omega arith) (λ _. omega arith)

click_id_room : (k one other : ℕ) → k < 2 ^ 32 → length (spell (click_id k one other)) ≤ 24
click_id_room k one other lt = spell_room (click_id k one other) (omega arith) (omega arith) (omega arith) (omega arith) (omega arith) (micros_room k lt)

told_id_room : (k one other : ℕ) → k < 2 ^ 32 → length (spell (told_id k one other)) ≤ 24
told_id_room k one other lt = grind (arith, spell_room)

query_line_room : (k one other : ℕ) → k < 2 ^ 32 → one < 2 ^ 31 → length (query_line (query_made k one other)) ≤ 36
query_line_room k one other lt low =
    omega (arith, query_id_room k one other lt, length-append (spell (query_id k one other)) (space ∷ (113 ∷ decimal one)), length-decimal-le 10 one (omega arith) (omega arith) (omega arith))

click_line_room : (k one other : ℕ) → k < 2 ^ 32 → other < 2 ^ 31 → length (click_line (click_made k one other)) ≤ 61
click_line_room k one other lt low =
    omega (
      arith,
      click_id_room k one other lt,
      told_id_room k one other lt,
      length-append (spell (click_id k one other)) (space ∷ (spell (told_id k one other) ++ space ∷ (99 ∷ decimal other))),
      length-append (spell (told_id k one other)) (space ∷ (99 ∷ decimal other)),
      length-decimal-le 10 other (omega arith) (omega arith) (omega arith),
    )

module _ {R : Type 0} (line_of : R → List ℕ) (at : ℕ → R) (most : ℕ) where
  whole_room : (n : ℕ) → ((k : ℕ) → k < n → length (line_of (at k)) ≤ most) → length (whole (map line_of (map at (range_with_len 0 n)))) ≤ n * (most + 1)
  whole_room zero h = omega arith
  whole_room (suc n) h =
      let on : suc n ≡ n + 1 = omega arith in
      let front = whole (map line_of (map at (range_with_len 0 n))) in
      let longer : length (whole (map line_of (map at (range_with_len 0 (suc n))))) ≡ length (front ++ (line_of (at n) ++ line_feed ∷ [])) = ap (λ m. length (whole (map line_of (map at (range_with_len 0 m))))) on ∙ ap length (grown line_of at n) in
      let times : suc n * (most + 1) ≡ n * (most + 1) + (most + 1) = suc-mul n (most + 1) in
      omega (arith, longer, times, length-append front (line_of (at n) ++ line_feed ∷ []), length-append (line_of (at n)) (line_feed ∷ []), h n (omega arith), whole_room n (λ k lt. h k (omega arith)))

pub query_room : (seed n : ℕ) → n ≤ 2 ^ 32 → length (query_log seed n) ≤ 37 * n
query_room seed n le =
    omega (arith, whole_room query_line (query_at seed) 36 n (λ k lt. query_line_room k (drawn seed (2 * k)) (drawn seed (2 * k + 1)) (omega arith) (drawn_low seed (2 * k))))

pub click_room : (seed n : ℕ) → n ≤ 2 ^ 32 → length (click_log seed n) ≤ 62 * n
click_room seed n le =
    omega (arith, whole_room click_line (click_at seed) 61 n (λ k lt. click_line_room k (drawn seed (2 * k)) (drawn seed (2 * k + 1)) (omega arith) (drawn_low seed (2 * k + 1))))
