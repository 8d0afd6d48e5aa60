-- Bytes that go out part by part.
use Rattle.std.proofs.Common.{◌≡◌, ℕ, zero, suc, ◌+◌, ◌-◌, ◌<◌, ◌≤◌, get_or, subst, List, [], ◌∷◌, ◌++◌, length, take, drop, refl, sym, ap, ◌∙◌, append_assoc, arith}
use Rattle.std.proofs.Math.Seq.{take-add}
use Rattle.std.proofs.lemmas.List.{take-take, length-take, take-append-drop, take_more}
use Rattle.std.proofs.lemmas.Grind.{flat_map-append}
use Rattle.std.specs.List.{flat_map}
use Rattle.std.specs.Prelude.{true, false, Result, OnOk, OnErr, is_ok}
use Rattle.report_text.specs.Stream.{Passed, TookPrefix}

-- a sink that took a front of the bytes takes some of the rest
pub took_more : (old base bytes : List ℕ) (done n : ℕ) → base ≡ old ++ take done bytes → n ≤ length (take (length bytes - done) (drop done bytes))
    → base ++ take n (take (length bytes - done) (drop done bytes)) ≡ old ++ take (done + n) bytes
took_more old base bytes done n e le =
    let fits : n ≤ length bytes - done = omega (arith, length-take (length bytes - done) (drop done bytes)) in
    let more : take n (take (length bytes - done) (drop done bytes)) ≡ take n (drop done bytes) = take-take n (length bytes - done) (drop done bytes) fits in
    rw (more, e, take-add done n bytes, append_assoc) refl

-- a front of the bytes is a prefix
pub took_front : (old bytes new : List ℕ) (n : ℕ) → new ≡ old ++ take n bytes → TookPrefix old bytes new
took_front old bytes new n e = record { sent = take n bytes; left = drop n bytes; bytes_are = sym (take-append-drop n bytes); new_is = e }

nothing_left : (xs : List ℕ) → xs ++ [] ≡ xs
nothing_left [] = refl
nothing_left (x ∷ xs) = ap (λ t. x ∷ t) (nothing_left xs)

pub all_sent : (old text new : List ℕ) → new ≡ old ++ text → Passed old text new []
all_sent old text new e = record { sent = text; text_is = sym (nothing_left text); new_is = e }

-- some more text
pub passes : (old text mid left more new end : List ℕ) → Passed old text mid left → Passed mid (left ++ more) new end → Passed old (text ++ more) new end
passes old text mid left more new end p q = record {
  sent = p.sent ++ q.sent;
  text_is = ap (λ t. t ++ more) p.text_is ∙ append_assoc p.sent left more ∙ ap (λ t. p.sent ++ t) q.text_is ∙ sym (append_assoc p.sent q.sent end);
  new_is = q.new_is ∙ ap (λ t. t ++ q.sent) p.new_is ∙ append_assoc old p.sent q.sent;
}

pub passes_part : (old text mid left more new : List ℕ) → Passed old text mid left → TookPrefix mid (left ++ more) new → TookPrefix old (text ++ more) new
passes_part old text mid left more new p q =
    let all = passes old text mid left more new q.left p (record { sent = q.sent; text_is = q.bytes_are; new_is = q.new_is }) in
    record { sent = all.sent; left = q.left; bytes_are = all.text_is; new_is = all.new_is }

-- nothing waited
pub from_empty : (old buffer text new left : List ℕ) → buffer ≡ [] → Passed old (buffer ++ text) new left → Passed old text new left
from_empty old buffer text new left e p = subst (λ b. Passed old (b ++ text) new left) e p

pub part_from_empty : (old buffer text new : List ℕ) → buffer ≡ [] → TookPrefix old (buffer ++ text) new → TookPrefix old text new
part_from_empty old buffer text new e p = subst (λ b. TookPrefix old (b ++ text) new) e p

-- what was left goes out
pub left_sent : (old text mid left new : List ℕ) → Passed old text mid left → new ≡ mid ++ left → new ≡ old ++ text
left_sent old text mid left new p e = e ∙ ap (λ t. t ++ left) p.new_is ∙ append_assoc old p.sent left ∙ ap (λ t. old ++ t) (sym p.text_is)

pub left_part : (old text mid left new : List ℕ) → Passed old text mid left → TookPrefix mid left new → TookPrefix old text new
left_part old text mid left new p q = record {
  sent = p.sent ++ q.sent;
  left = q.left;
  bytes_are = p.text_is ∙ ap (λ t. p.sent ++ t) q.bytes_are ∙ sym (append_assoc p.sent q.sent q.left);
  new_is = q.new_is ∙ ap (λ t. t ++ q.sent) p.new_is ∙ append_assoc old p.sent q.sent;
}

-- a prefix of a front is one of the whole
pub longer : (old text more new : List ℕ) → TookPrefix old text new → TookPrefix old (text ++ more) new
longer old text more new p = record {
  sent = p.sent;
  left = p.left ++ more;
  bytes_are = ap (λ t. t ++ more) p.bytes_are ∙ append_assoc p.sent p.left more;
  new_is = p.new_is;
}

-- ---- the texts of a list, one behind another

-- an element that is there doesn't depend on the default
pub get_or_itself : {X : Type 0} (xs : List X) (k : ℕ) (d : X) → k < length xs → get_or xs k d ≡ get_or xs k (get_or xs k d)
get_or_itself {X} xs k d lt = go xs k (get_or xs k d) lt
  where
    go : (ys : List X) (n : ℕ) (e : X) → n < length ys → get_or ys n d ≡ get_or ys n e
    go [] n e h = absurd (omega arith)
    go (y ∷ ys) zero e h = refl
    go (y ∷ ys) (suc n) e h = go ys n e (omega arith)

module _ {X : Type 0} (f : X → List ℕ) where
  one_more : (xs : List X) (k : ℕ) (x : X) → k < length xs → x ≡ get_or xs k x → flat_map f (take (k + 1) xs) ≡ flat_map f (take k xs) ++ f x
  one_more xs k x lt is =
      ap (flat_map f) (take_more xs k x lt ∙ ap (λ (y : X). take k xs ++ y ∷ []) (sym is)) ∙ flat_map-append f (take k xs) (x ∷ []) ∙ ap (λ t. flat_map f (take k xs) ++ t) (nothing_left (f x))

  pub text_passed : (xs : List X) (k : ℕ) (x : X) (old buffer mid left new end : List ℕ) → k < length xs → x ≡ get_or xs k x → Passed old (buffer ++ flat_map f (take k xs)) mid left → Passed mid (left ++ f x) new end
      → Passed old (buffer ++ flat_map f (take (k + 1) xs)) new end
  text_passed xs k x old buffer mid left new end lt is p q =
      subst (λ t. Passed old t new end) (append_assoc buffer (flat_map f (take k xs)) (f x) ∙ ap (λ t. buffer ++ t) (sym (one_more xs k x lt is))) (passes old (buffer ++ flat_map f (take k xs)) mid left (f x) new end p q)

  pub text_cut : (xs : List X) (k : ℕ) (x : X) (old buffer mid left new : List ℕ) → k < length xs → x ≡ get_or xs k x → Passed old (buffer ++ flat_map f (take k xs)) mid left → TookPrefix mid (left ++ f x) new
      → TookPrefix old (buffer ++ flat_map f xs) new
  text_cut xs k x old buffer mid left new lt is p q =
      let front = passes_part old (buffer ++ flat_map f (take k xs)) mid left (f x) new p q in
      let all : flat_map f (take (k + 1) xs) ++ flat_map f (drop (k + 1) xs) ≡ flat_map f xs = sym (flat_map-append f (take (k + 1) xs) (drop (k + 1) xs)) ∙ ap (flat_map f) (take-append-drop (k + 1) xs) in
      subst (λ t. TookPrefix old t new)
      (append_assoc (buffer ++ flat_map f (take k xs)) (f x) (flat_map f (drop (k + 1) xs)) ∙ append_assoc buffer (flat_map f (take k xs)) (f x ++ flat_map f (drop (k + 1) xs))
      ∙ ap (λ t. buffer ++ t) (sym (append_assoc (flat_map f (take k xs)) (f x) (flat_map f (drop (k + 1) xs))) ∙ ap (λ t. t ++ flat_map f (drop (k + 1) xs)) (sym (one_more xs k x lt is)) ∙ all))
      (longer old ((buffer ++ flat_map f (take k xs)) ++ f x) (flat_map f (drop (k + 1) xs)) new front)

-- what holds, holds of a call that fails
pub on_err : {T E P : Type 0} (r : Result T E) → P → OnErr r P
on_err h p = grind arith

-- ---- a buffer that took the bytes, or had no room for them

pub given_ok : {T E : Type 0} (r : Result T E) (P : Type 0) → true ≡ is_ok r → OnOk r P → P
given_ok k e is h = grind arith

pub given_err : {T E : Type 0} (r : Result T E) (P : Type 0) → false ≡ is_ok r → OnErr r P → P
given_err k e is h = grind arith

-- what waited went out, and the text waits, or went out too
pub waits_now : (old buffer text mid left : List ℕ) → mid ≡ old ++ buffer → left ≡ text → Passed old (buffer ++ text) mid left
waits_now old buffer text mid left sent is = record { sent = buffer; text_is = ap (λ t. buffer ++ t) (sym is); new_is = sent }

pub went_too : (old buffer text mid new left : List ℕ) → mid ≡ old ++ buffer → new ≡ mid ++ text → left ≡ [] → Passed old (buffer ++ text) new left
went_too old buffer text mid new left sent is none = record {
  sent = buffer ++ text;
  text_is = sym (nothing_left (buffer ++ text)) ∙ ap (λ t. (buffer ++ text) ++ t) (sym none);
  new_is = is ∙ ap (λ t. t ++ text) sent ∙ append_assoc old buffer text;
}
