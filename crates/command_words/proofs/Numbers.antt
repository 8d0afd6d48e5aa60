-- Numbers as they are read.
use Rattle.std.proofs.Common.{◌≡◌, ◌∙◌, ◌≤◌, ℕ, Option, Some, None, Result, Ok, Err, refl, sym, ap, subst, arith, [], ◌∷◌}
use Rattle.std.specs.Borrow.{Bor}
use Rattle.command_words.proofs.Words.{AllDigits, IsSomeAnd, IsUnsignedIn, ParsesUnsigned, Text, TriesOne, digits_value, one_of, one_text, option_map, option_map_or, option_or, rows_of, unwrap_or, without_leading_plus}
use Rattle.clap.specs.declared.parser.matches.Found.{Found}
use Rattle.clap.proofs.WalkLemmas.{one_text-rows}

-- the number of a text that may be there
abbrev pub written : Option Text → ℕ
written o = option_map_or (λ t. digits_value 10 (without_leading_plus t)) o 0

-- digits have no plus before them
pub no_plus : (ds : Text) → AllDigits 10 ds → without_leading_plus ds ≡ ds
no_plus [] h = refl
no_plus (d ∷ ds) h = grind arith

-- the text of an option as written, or else its default
pub or_default : (g d o : Option (Bor Text)) (r e : Bor Text) → r ≡ unwrap_or o e → o ≡ option_or g d → r.now ≡ unwrap_or (option_or (option_map (λ t. t.now) g) (option_map (λ t. t.now) d)) e.now
or_default g d o r e is same = grind arith

-- the value of an option that is not there is its default, if it has one
pub its_default : (o : Option Text) (d : Option (Bor Text)) (t : Bor Text) → o ≡ None → d ≡ Some t → option_or o (option_map (λ t. t.now) d) ≡ Some t.now
its_default o d t none is = λ i. option_or (none i) (option_map (λ t. t.now) (is i))

pub no_default : (o : Option Text) (d : Option (Bor Text)) → o ≡ None → d ≡ None → option_or o (option_map (λ t. t.now) d) ≡ None
no_default o d none is = λ i. option_or (none i) (option_map (λ t. t.now) (is i))

-- G says what is read of a text as 64 bits
module _ {E : Type 0} (G : Text → Result ℕ E → Type 0) (only : (t : Text) (x : Result ℕ E) → G t x → ParsesUnsigned 64 10 t x) where
  given : (o d : Option Text) (n : ℕ) (r : Result (Option ℕ) E) → r ≡ Ok (Some n) → (o ≡ None → r ≡ Ok None) → ((t : Text) → o ≡ Some t → TriesOne G t r) → n ≡ written (option_or o d)
  given None d n r is none some = let bad = none refl in cc
  given (Some t) d n r is none some = (only t (Ok n) (subst (TriesOne G t) is (some t refl))).1

  absent : (o : Option Text) (r : Result (Option ℕ) E) → r ≡ Ok None → ((t : Text) → o ≡ Some t → TriesOne G t r) → o ≡ None
  absent None r is some = refl
  absent (Some t) r is some = absurd (subst (TriesOne G t) is (some t refl))

  failed : (o d : Option Text) (low high : ℕ) (e : E) (r : Result (Option ℕ) E) → r ≡ Err e → (o ≡ None → r ≡ Ok None) → ((t : Text) → o ≡ Some t → TriesOne G t r)
      → IsSomeAnd (option_or o d) (IsUnsignedIn low high) → ⊥
  failed None d low high e r is none some h = let bad = none refl in cc
  failed (Some t) d low high e r is none some h = only t (Err e) (subst (TriesOne G t) is (some t refl)) (h.0, h.1)

  -- the same of what the matches have under an id
  pub number_given : (f : Found) (id : Text) (d : Option Text) (n : ℕ) (r : Result (Option ℕ) E) → r ≡ Ok (Some n) → (one_text f id ≡ None → r ≡ Ok None)
      → ((t : Text) → one_text f id ≡ Some t → TriesOne G t r) → n ≡ written (option_or (one_of id (rows_of f)) d)
  number_given f id d n r is none some = given (one_text f id) d n r is none some ∙ ap (λ (o : Option Text). written (option_or o d)) (one_text-rows f id)

  pub none_given : (f : Found) (id : Text) (r : Result (Option ℕ) E) → r ≡ Ok None → ((t : Text) → one_text f id ≡ Some t → TriesOne G t r) → one_of id (rows_of f) ≡ None
  none_given f id r is some = sym (one_text-rows f id) ∙ absent (one_text f id) r is some

  pub number_failed : (f : Found) (id : Text) (d : Option Text) (low high : ℕ) (e : E) (r : Result (Option ℕ) E) → r ≡ Err e → (one_text f id ≡ None → r ≡ Ok None)
      → ((t : Text) → one_text f id ≡ Some t → TriesOne G t r) → IsSomeAnd (option_or (one_of id (rows_of f)) d) (IsUnsignedIn low high) → ⊥
  number_failed f id d low high e r is none some h =
      failed (one_text f id) d low high e r is none some (subst (λ (o : Option Text). IsSomeAnd (option_or o d) (IsUnsignedIn low high)) (sym (one_text-rows f id)) h)

  -- what is read of a default
  pub default_read : (t : Text) (n : ℕ) (r : Result ℕ E) → G t r → r ≡ Ok n → n ≡ digits_value 10 (without_leading_plus t)
  default_read t n r g is = (only t (Ok n) (subst (G t) is g)).1

  pub default_failed : (t : Text) (low high : ℕ) (e : E) (r : Result ℕ E) → G t r → r ≡ Err e → IsUnsignedIn low high t → ⊥
  default_failed t low high e r g is h = only t (Err e) (subst (G t) is g) (h.0, h.1)

pub number_within : (o : Option Text) (low high : ℕ) → IsSomeAnd o (IsUnsignedIn low high) → (low ≤ written o) × (written o ≤ high)
number_within o low high h = grind arith
