-- Numbers in decimal.
use Rattle.std.proofs.Common.{◌≡◌, ◌≢◌, ℕ, ◌^◌, ◌+◌, ◌-◌, ◌*◌, ◌/◌, ◌%◌, ◌<◌, ◌≤◌, ◌++◌, append_assoc, ◌⊎◌, List, [], ◌∷◌, length, get_or, Option, Some, None, Result, Ok, refl, sym, ap, subst, ◌∙◌, arith, rules, decimal}
use Rattle.std.specs.Result.{MatchResult, result_ok}
use Rattle.std.specs.Char.{IsAsciiDigit}
use Rattle.std.specs.Str.Parse.{AllDigits, digits_value, ParsesUnsigned}
use Rattle.std.proofs.lemmas.Str.Parse.{IsNumeralModel, numerals_by_value, tells_digits, parse_plain, digit_from_value, numerals_by_fold}
use Rattle.std.proofs.lemmas.Fmt.{digits_decimal, digits_value-decimal, decimal-digits_value, decimal_nonempty, first_decimal, decimal_digit, decimal_step, decimal_injective}
use Rattle.std.proofs.lemmas.Result.{OkIff-at_ok}
use Rattle.list_words.specs.Bytes.{Lacks}
use Rattle.event_id.specs.Numeral.{HasPlainFront, BeginsWithNoDigit}

own : IsNumeralModel (AllDigits 10) (digits_value 10)
own = numerals_by_value (AllDigits 10) tells_digits

digits_lack : (byte : ℕ) (ds : List ℕ) → (byte < 48) ⊎ (57 < byte) → AllDigits 10 ds → Lacks byte ds
digits_lack byte [] out h = tt
digits_lack byte (d ∷ ds) out h = grind (arith, digits_lack byte ds out h.1)

-- a number in decimal has no byte that is no digit
pub decimal_lacks : (byte n : ℕ) → (byte < 48) ⊎ (57 < byte) → n < 2 ^ 64 → Lacks byte (decimal n)
decimal_lacks byte n out h = digits_lack byte (decimal n) out (digits_decimal own n h)

not_plus : (bs : List ℕ) → HasPlainFront bs → get_or bs 0 0 ≢ 43
not_plus [] h = λ e. omega arith
not_plus (b ∷ []) h = h
not_plus (b ∷ c ∷ bs) h = h.0

zero_alone : (bs : List ℕ) → HasPlainFront bs → 0 < length bs → get_or bs 0 0 ≡ 48 → length bs ≡ 1
zero_alone [] h some = λ e. omega arith
zero_alone (b ∷ []) h some = λ e. refl
zero_alone (b ∷ c ∷ bs) h some = λ e. absurd (h.1 e)

-- what `parse` reads behind a plain front is in decimal
pub parsed_is_decimal : {E : Type 0} (bs : List ℕ) (r : Result ℕ E) (n : ℕ) → ParsesUnsigned 64 10 bs r → HasPlainFront bs → r ≡ Ok n → bs ≡ decimal n
parsed_is_decimal bs r n parses front is =
    let read = OkIff-at_ok r _ _ n (parse_plain own 64 bs r parses (not_plus bs front)) is in
    sym (ap decimal read.1 ∙ decimal-digits_value own bs read.0.0 read.0.1 (zero_alone bs front read.0.1) read.0.2)

front_from_first : (bs : List ℕ) → 48 < get_or bs 0 0 → HasPlainFront bs
front_from_first [] h = tt
front_from_first (b ∷ []) h = λ e. omega arith
front_from_first (b ∷ c ∷ bs) h = (λ e. omega arith, λ e. omega arith)

-- a number in decimal has a plain front
pub decimal_front : (n : ℕ) → n < 2 ^ 64 → HasPlainFront (decimal n)
decimal_front n h = grind (arith, front_from_first, first_decimal, decimal_digit)

-- of what `ok` keeps of a result
pub ok_keeps : {T E : Type 0} (r : Result T E) (P : T → Type 0) (Q : E → Type 0) (x : T) → MatchResult r P Q → result_ok r ≡ Some x → P x
ok_keeps k m q x h e = grind arith

pub ok_loses : {T E : Type 0} (r : Result T E) (P : T → Type 0) (Q : E → Type 0) → MatchResult r P Q → result_ok r ≡ None → (d : E) × Q d
ok_loses k m q h e = grind arith

pub ok_kept : {T E : Type 0} (r : Result T E) (x : T) → result_ok r ≡ Some x → r ≡ Ok x
ok_kept h x e = grind arith

pub none_is_some : {A : Type 0} (x : A) → ◌≡◌ {A = Option A} None (Some x) → ⊥
none_is_some x e = absurd cc

-- ---- a number that a text begins with

-- what digits behind a number make of it
abbrev read_on : ℕ → List ℕ → ℕ
read_on n [] = n
read_on n (d ∷ ds) = read_on (10 * n + (d - 48)) ds

folded : IsNumeralModel (AllDigits 10) (read_on 0)
folded = numerals_by_fold (AllDigits 10) tells_digits read_on (search rules)

read_on_grows : (n : ℕ) (ds : List ℕ) → n ≤ read_on n ds
read_on_grows n [] = omega arith
read_on_grows n (d ∷ ds) = omega (arith, read_on_grows (10 * n + (d - 48)) ds)

-- digits end at the first byte that is none
digits_end : (xs ys rest rest' : List ℕ) → AllDigits 10 xs → AllDigits 10 ys → BeginsWithNoDigit rest → BeginsWithNoDigit rest' → xs ++ rest ≡ ys ++ rest' → (xs ≡ ys) × (rest ≡ rest')
digits_end [] [] rest rest' h k p q e = (refl, e)
digits_end [] (y ∷ ys) [] rest' h k p q e = absurd cc
digits_end [] (y ∷ ys) (b ∷ rest) rest' h k p q e = let same : b ≡ y = cc in absurd (p (subst IsAsciiDigit (sym same) (digit_from_value y k.0)))
digits_end (x ∷ xs) [] rest [] h k p q e = absurd cc
digits_end (x ∷ xs) [] rest (b ∷ rest') h k p q e = let same : b ≡ x = cc in absurd (q (subst IsAsciiDigit (sym same) (digit_from_value x h.0)))
digits_end (x ∷ xs) (y ∷ ys) rest rest' h k p q e = grind (arith, digits_end xs ys rest rest' h.1 k.1 p q)

-- a number that goes on with a digit is no smaller than the digit makes it
digits_go_on : (n : ℕ) (xs ys : List ℕ) (d : ℕ) (behind rest : List ℕ) → AllDigits 10 xs → AllDigits 10 ys → d < 10 → BeginsWithNoDigit rest → xs ++ (48 + d) ∷ behind ≡ ys ++ rest → 10 * read_on n xs + d ≤ read_on n ys
digits_go_on n [] [] d behind [] h k digit q e = absurd cc
digits_go_on n [] [] d behind (b ∷ rest) h k digit q e = let same : 48 + d ≡ b = cc in absurd (q (omega arith, omega arith))
digits_go_on n [] (y ∷ ys) d behind rest h k digit q e = grind (arith, read_on_grows)
digits_go_on n (x ∷ xs) [] d behind [] h k digit q e = absurd cc
digits_go_on n (x ∷ xs) [] d behind (b ∷ rest) h k digit q e = let same : b ≡ x = cc in absurd (q (subst IsAsciiDigit (sym same) (digit_from_value x h.0)))
digits_go_on n (x ∷ xs) (y ∷ ys) d behind rest h k digit q e = grind (arith, digits_go_on (10 * n + (x - 48)) xs ys d behind rest h.1 k.1 digit q)

-- one more digit of the number that a text begins with
pub number_more : (text text' behind : List ℕ) (n d : ℕ) → 0 < n → d < 10 → n * 10 + d < 2 ^ 64 → text ≡ decimal n ++ text' → text' ≡ (48 + d) ∷ behind → text ≡ decimal (n * 10 + d) ++ behind
number_more text text' behind n d some digit lt e f =
    let m : ℕ = n * 10 + d in
    let front : m / 10 ≡ n = omega arith in
    let last : m % 10 ≡ d = omega arith in
    e ∙ rw (f, decimal_step m (omega arith) lt, front, last, append_assoc) refl

-- a text begins with one number
pub number_same : (text rest rest' : List ℕ) (m n : ℕ) → m < 2 ^ 64 → n < 2 ^ 64 → BeginsWithNoDigit rest → BeginsWithNoDigit rest' → text ≡ decimal m ++ rest → text ≡ decimal n ++ rest' → (m ≡ n) × (rest ≡ rest')
number_same text rest rest' m n lt lt' p q e f = grind (arith, digits_end, digits_decimal, own, decimal_injective)

-- the number that a text begins with is no smaller than its first digits make it
pub number_reaches : (text text' behind rest : List ℕ) (m d n : ℕ) → m < 2 ^ 64 → n < 2 ^ 64 → d < 10 → BeginsWithNoDigit rest → text ≡ decimal m ++ text' → text' ≡ (48 + d) ∷ behind → text ≡ decimal n ++ rest → m * 10 + d ≤ n
number_reaches text text' behind rest m d n lt lt' digit q e f g = grind (arith, digits_go_on, digits_decimal, digits_value-decimal, folded)

digits_begin : (ds rest : List ℕ) → AllDigits 10 ds → 0 < length ds → BeginsWithNoDigit (ds ++ rest) → ⊥
digits_begin [] rest h some ends = omega arith
digits_begin (d ∷ ds) rest h some ends = ends (digit_from_value d h.0)

-- a number begins with a digit
pub no_number : (text rest : List ℕ) (n : ℕ) → n < 2 ^ 64 → BeginsWithNoDigit text → text ≡ decimal n ++ rest → ⊥
no_number text rest n lt ends e = digits_begin (decimal n) rest (digits_decimal own n lt) (decimal_nonempty n lt) (subst BeginsWithNoDigit e ends)

-- a digit is a number
pub number_begins : (text behind : List ℕ) (d : ℕ) → d < 10 → text ≡ (48 + d) ∷ behind → text ≡ decimal d ++ behind
number_begins text behind d digit e = e ∙ rw (decimal_digit d digit) refl

zero_first : (ds behind rest : List ℕ) → 48 < get_or ds 0 0 → 48 ∷ behind ≡ ds ++ rest → ⊥
zero_first [] behind rest h e = omega arith
zero_first (d ∷ ds) behind rest h e = let same : 48 ≡ d = cc in omega arith

-- a number that begins with a zero is zero
pub number_zero : (text behind rest : List ℕ) (d n : ℕ) → d ≡ 0 → n < 2 ^ 64 → text ≡ (48 + d) ∷ behind → text ≡ decimal n ++ rest → (0 ≡ n) × (behind ≡ rest)
number_zero text behind rest d n zero lt e f = grind (arith, zero_first, first_decimal, decimal_digit)
