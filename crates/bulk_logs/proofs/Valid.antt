-- Both logs are valid.
use Rattle.std.proofs.Common.{◌≡◌, ℕ, zero, suc, ◌+◌, ◌*◌, ◌/◌, ◌%◌, ◌^◌, ◌<◌, ◌≤◌, ◌==◌, List, [], ◌∷◌, map, Contains, decimal, sym, ap, ◌∙◌, arith}
use Rattle.std.specs.List.{AllByRecursion, range_with_len}
use Rattle.std.specs.Str.Parse.{AllDigits}
use Rattle.std.proofs.lemmas.Str.Parse.{numerals_by_value, tells_digits, digit_from_value}
use Rattle.std.proofs.lemmas.Fmt.{digits_decimal, length-decimal-le}
use Rattle.std.proofs.lemmas.Bool.{cond_both}
use Rattle.std.proofs.lemmas.List.{append-nil}
use Rattle.std.proofs.lemmas.List.Elements.{All-from_recursion}
use Rattle.std.proofs.lemmas.List.FromFn.{length-map-range_with_len, get_or-map-range_with_len}
use Rattle.std.proofs.Math.Nat.{mod-lt}
use Rattle.event_id.specs.declared.id.EventId.{EventId}
use Rattle.event_id.specs.EventId.{IsId}
use Rattle.log_records.specs.Text.{IsText, IsPrintable}
use Rattle.log_records.specs.Line.{query_line, click_line, IsQuery, IsClick}
use Rattle.log_records.specs.Log.{whole, Holds, HoldsQueries, HoldsClicks}
use Rattle.bulk_logs.specs.Bulk.{after, x_after, drawn, query_id, click_micros, nowhere, told_id, query_made, click_made, query_at, click_at, queries, clicks, query_log, click_log}

-- ---- lists that are made from places

module _ {R : Type 0} (at : ℕ → R) where
  pub each_made : (P : R → Type 0) (a n : ℕ) → ((k : ℕ) → a ≤ k → k < a + n → P (at k)) → AllByRecursion P (map at (range_with_len a n))
  each_made P a zero h = tt
  each_made P a (suc n) h = (h a (omega arith) (omega arith), each_made P (a + 1) n (λ k ge lt. h k (omega arith) (omega arith)))

  place_of : (n : ℕ) (r : R) → Contains (map at (range_with_len 0 n)) r → (k : ℕ) × (k < n) × (at k ≡ r)
  place_of n r h = grind (arith, length-map-range_with_len, get_or-map-range_with_len)

  one_made : (id_of : R → EventId) (n : ℕ) → ((j k : ℕ) → j < n → k < n → id_of (at j) ≡ id_of (at k) → j ≡ k) → (r s : R) → Contains (map at (range_with_len 0 n)) r → Contains (map at (range_with_len 0 n)) s → id_of r ≡ id_of s → r ≡ s
  one_made id_of n apart r s a b e =
      let x = place_of n r a in
      let y = place_of n s b in
      let same = apart x.0 y.0 x.1 y.1 (ap id_of x.2 ∙ e ∙ sym (ap id_of y.2)) in
      sym x.2 ∙ ap at same ∙ y.2

module _ {R : Type 0} (line : R → List ℕ) (IsRecord : R → Type 0) (id_of : R → EventId) (at : ℕ → R) where
  holds_made : (n : ℕ) → ((k : ℕ) → k < n → IsRecord (at k)) → ((j k : ℕ) → j < n → k < n → id_of (at j) ≡ id_of (at k) → j ≡ k) → Holds line IsRecord id_of (whole (map line (map at (range_with_len 0 n)))) (map at (range_with_len 0 n))
  holds_made n good apart = record {
    lines = ([], sym (append-nil (whole (map line (map at (range_with_len 0 n))))), tt);
    each = each_made at IsRecord 0 n (λ k ge lt. good k (omega arith));
    one = one_made at id_of n apart;
  }

-- ---- each record

-- a number drawn has 31 bits
low : (x : ℕ) → after x / 2 ^ 33 < 2 ^ 31
low x = omega (arith, mod-lt (x * 6364136223846793005 + 1442695040888963407) {m = 2 ^ 64} (omega arith))

pub drawn_low : (seed i : ℕ) → drawn seed i < 2 ^ 31
drawn_low seed i = low (x_after seed i)

printable : (ds : List ℕ) → AllDigits 10 ds → AllByRecursion IsPrintable ds
printable [] h = tt
printable (d ∷ ds) h = let range = digit_from_value d h.0 in ((omega arith, omega arith), printable ds h.1)

text_made : (letter n : ℕ) → IsPrintable letter → n < 2 ^ 31 → IsText (letter ∷ decimal n)
text_made letter n p lt =
    let digits = digits_decimal (numerals_by_value (AllDigits 10) tells_digits) n (omega arith) in
    let short = length-decimal-le 20 n (omega arith) (omega arith) (omega arith) in
    record { len = omega arith; bytes = All-from_recursion IsPrintable (letter ∷ decimal n) (p, printable (decimal n) digits) }

query_id_good : (k one other : ℕ) → k < 100000 → IsId (query_id k one other)
query_id_good k one other lt = record { ip = omega arith; pid = omega arith; micros = omega arith }

query_good : (k one other : ℕ) → k < 100000 → one < 2 ^ 31 → IsQuery (query_made k one other)
query_good k one other lt low = record { id = query_id_good k one other lt; text = text_made 113 one (omega arith, omega arith) low }

micros_fit : (k : ℕ) → k < 100000 → click_micros k < 2 ^ 64
micros_fit k lt = cond_both (k % 10 == 4) (500000 + k) (2000000 + 10 * k) (λ m. m < 2 ^ 64) (λ _. omega arith) (λ _. omega arith)

told_good : (k one other : ℕ) → k < 100000 → IsId (told_id k one other)
told_good k one other lt = cond_both (k % 10 == 9) (nowhere k) (query_id k one other) IsId (λ _. record { ip = omega arith; pid = omega arith; micros = omega arith }) (λ _. query_id_good k one other lt)

click_good : (k one other : ℕ) → k < 100000 → other < 2 ^ 31 → IsClick (click_made k one other)
click_good k one other lt low = record {
  id = record { ip = omega arith; pid = omega arith; micros = micros_fit k lt };
  query = told_good k one other lt;
  text = text_made 99 other (omega arith, omega arith) low;
}

-- ---- no two of one id

-- no old click has a timestamp that a young one has
pub click_apart : (j k : ℕ) → j < 100000 → k < 100000 → click_micros j ≡ click_micros k → j ≡ k
click_apart j k a b = grind arith

pub queries_hold : (seed n : ℕ) → n ≤ 100000 → HoldsQueries (query_log seed n) (queries seed n)
queries_hold seed n le =
    holds_made query_line IsQuery (λ q. q.id) (query_at seed) n (λ k lt. query_good k (drawn seed (2 * k)) (drawn seed (2 * k + 1)) (omega arith) (drawn_low seed (2 * k)))
    (λ j k a b e. let same : 1000000 + 10 * j ≡ 1000000 + 10 * k = ap (λ (i : EventId). i.micros) e in omega arith)

pub clicks_hold : (seed n : ℕ) → n ≤ 100000 → HoldsClicks (click_log seed n) (clicks seed n)
clicks_hold seed n le =
    holds_made click_line IsClick (λ c. c.id) (click_at seed) n (λ k lt. click_good k (drawn seed (2 * k)) (drawn seed (2 * k + 1)) (omega arith) (drawn_low seed (2 * k + 1)))
    (λ j k a b e. click_apart j k (omega arith) (omega arith) (ap (λ (i : EventId). i.micros) e))
