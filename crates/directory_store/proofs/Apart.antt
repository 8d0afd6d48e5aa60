-- No two disks have one name.
use Rattle.std.proofs.Common.{◌≡◌, ℕ, ◌^◌, ◌<◌, ◌≤◌, ◌++◌, ◌==◌, List, [], ◌∷◌, length, drop, get_or, false, if◌then◌else◌, codes, decimal, refl, sym, ap, ◌∙◌, arith, rules, append_assoc, lit<, zero, suc}
use Rattle.std.specs.Str.Parse.{AllDigits, digits_value}
use Rattle.std.proofs.lemmas.Str.Parse.{IsNumeralModel, numerals_by_value, tells_digits, digit_from_value}
use Rattle.std.proofs.lemmas.Fmt.{digits_decimal, decimal_injective}
use Rattle.outside.specs.declared.store.DiskName.{DiskName}
use Rattle.outside.specs.declared.store.DiskName.TheVariants.{Topology, Offset, Retry, Server, Replica, Epoch, Output}
use Rattle.directory_store.specs.Names.{word, site_text, numbers, name_text, IsOfBytes}

own : IsNumeralModel (AllDigits 10) (digits_value 10)
own = numerals_by_value (AllDigits 10) tells_digits

all_digits : (n : ℕ) → n < 2 ^ 8 → AllDigits 10 (decimal n)
all_digits n lt = digits_decimal own n (omega (arith, lt))

same_number : (m n : ℕ) → m < 2 ^ 8 → n < 2 ^ 8 → decimal m ≡ decimal n → m ≡ n
same_number m n lt lt' e = decimal_injective m n (omega (arith, lt)) (omega (arith, lt')) e

-- digits end at the dash
dash_ends : (xs ys rest rest' : List ℕ) → AllDigits 10 xs → AllDigits 10 ys → xs ++ 45 ∷ rest ≡ ys ++ 45 ∷ rest' → (xs ≡ ys) × (rest ≡ rest')
dash_ends [] [] rest rest' h k e = (refl, cc)
dash_ends [] (y ∷ ys) rest rest' h k e = grind (arith, digit_from_value)
dash_ends (x ∷ xs) [] rest rest' h k e = grind arith
dash_ends (x ∷ xs) (y ∷ ys) rest rest' h k e = grind (arith, dash_ends xs ys rest rest' h.1 k.1)

-- digits don't begin with a letter
no_letter : (letter : ℕ) (xs behind rest : List ℕ) → 57 < letter → AllDigits 10 xs → letter ∷ rest ≡ xs ++ 45 ∷ behind → ⊥
no_letter letter [] behind rest high h e = let same : letter ≡ 45 = cc in omega (arith, high, same)
no_letter letter (x ∷ xs) behind rest high h e = grind arith

-- a site beyond the two
is_far : (n : ℕ) → 2 ≤ n → ((n == 0) ≡ false) × ((n == 1) ≡ false)
is_far n le = (search (rules, le), search (rules, le))

far : (n : ℕ) (rest : List ℕ) → 2 ≤ n → site_text n ++ rest ≡ decimal n ++ 45 ∷ rest
far n rest le = rw ((is_far n le).0, (is_far n le).1) (append_assoc (decimal n) (codes "-") rest)

not_far : (letter n : ℕ) (rest rest' : List ℕ) → 57 < letter → 2 ≤ n → n < 2 ^ 8 → letter ∷ rest ≡ site_text n ++ rest' → ⊥
not_far letter n rest rest' high le lt e = no_letter letter (decimal n) rest' rest high (all_digits n lt) (e ∙ far n rest' le)

-- what begins with a site's text is of that site alone
same_site : (m n : ℕ) (rest rest' : List ℕ) → m < 2 ^ 8 → n < 2 ^ 8 → site_text m ++ rest ≡ site_text n ++ rest' → (m ≡ n) × (rest ≡ rest')
same_site zero zero rest rest' lt lt' e = (refl, cc)
same_site zero (suc zero) rest rest' lt lt' e = let heads : 65 ≡ 66 = ap (λ t. get_or t 0 0) e in absurd (omega (arith, heads))
same_site (suc zero) zero rest rest' lt lt' e = let heads : 66 ≡ 65 = ap (λ t. get_or t 0 0) e in absurd (omega (arith, heads))
same_site (suc zero) (suc zero) rest rest' lt lt' e = (refl, cc)
same_site zero (suc (suc n)) rest rest' lt lt' e = absurd (not_far 65 (suc (suc n)) rest rest' (lit< tt) (omega arith) lt' e)
same_site (suc zero) (suc (suc n)) rest rest' lt lt' e = absurd (not_far 66 (suc (suc n)) rest rest' (lit< tt) (omega arith) lt' e)
same_site (suc (suc m)) zero rest rest' lt lt' e = absurd (not_far 65 (suc (suc m)) rest' rest (lit< tt) (omega arith) lt (sym e))
same_site (suc (suc m)) (suc zero) rest rest' lt lt' e = absurd (not_far 66 (suc (suc m)) rest' rest (lit< tt) (omega arith) lt (sym e))
same_site (suc (suc m)) (suc (suc n)) rest rest' lt lt' e = grind (arith, dash_ends, all_digits, far, same_number)

one_site : (m n : ℕ) → m < 2 ^ 8 → n < 2 ^ 8 → site_text m ≡ site_text n → m ≡ n
one_site m n lt lt' e = (same_site m n [] [] lt lt' (ap (λ t. t ++ []) e)).0

-- ---- a name by its kind and its numbers

-- the same with no numbers
abbrev kind : DiskName → DiskName
kind Topology = Topology
kind (Offset site) = Offset 0
kind (Retry site) = Retry 0
kind (Server site) = Server 0
kind (Replica number) = Replica 0
kind (Epoch site joiner) = Epoch 0 0
kind (Output site joiner) = Output 0 0

both : (F : ℕ → ℕ → DiskName) (s j s' j' : ℕ) → s < 2 ^ 8 → j < 2 ^ 8 → s' < 2 ^ 8 → j' < 2 ^ 8 → site_text s ++ decimal j ≡ site_text s' ++ decimal j' → F s j ≡ F s' j'
both h s j s' j' ls lj ls' lj' e = grind (arith, same_site, same_number)

one_kind : (a b : DiskName) → kind a ≡ kind b → IsOfBytes a → IsOfBytes b → numbers a ≡ numbers b → a ≡ b
one_kind (Epoch s j) (Epoch t i) k h h' e = both (λ x y. Epoch x y) s j t i h.0 h.1 h'.0 h'.1 e
one_kind (Output s j) (Output t i) k h h' e = both (λ x y. Output x y) s j t i h.0 h.1 h'.0 h'.1 e
one_kind _ _ k h h' e = grind (arith, one_site, same_number)

-- ---- what the text tells

-- the kind, by a text's first byte and its third
abbrev kind_by : ℕ → ℕ → DiskName
kind_by a c = if a == 116 then Topology else if a == 115 then Server 0 else if a == 101 then Epoch 0 0 else if a == 111 then (if c == 102 then Offset 0 else Output 0 0) else if c == 116 then Retry 0 else Replica 0

tells_kind : (d : DiskName) → kind_by (get_or (name_text d) 0 0) (get_or (name_text d) 2 0) ≡ kind d
tells_kind h = grind arith

tells_numbers : (d : DiskName) → drop (length (word (kind d))) (name_text d) ≡ numbers d
tells_numbers h = grind arith

pub names_apart : (a b : DiskName) → IsOfBytes a → IsOfBytes b → name_text a ≡ name_text b → a ≡ b
names_apart a b ha hb e =
    let kinds : kind a ≡ kind b = sym (tells_kind a) ∙ ap (λ t. kind_by (get_or t 0 0) (get_or t 2 0)) e ∙ tells_kind b in
    let told : numbers a ≡ numbers b = sym (tells_numbers a) ∙ ap (λ t. drop (length (word (kind a))) t) e ∙ ap (λ k. drop (length (word k)) (name_text b)) kinds ∙ tells_numbers b in
    one_kind a b kinds ha hb told
