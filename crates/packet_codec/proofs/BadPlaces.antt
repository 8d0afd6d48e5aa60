-- The first bad byte of a spelling made of parts.
use Rattle.std.proofs.Common.{◌≡◌, ⊎_elim, ℕ, ◌+◌, ◌-◌, ◌<◌, ◌≤◌, List, ◌++◌, length, take, drop, get_or, refl, sym, ap, ◌∙◌, subst, append_assoc, arith}
use Rattle.std.specs.Prelude.{replicate}
use Rattle.std.proofs.Math.Seq.{take-append-add}
use Rattle.std.proofs.lemmas.Bool.{cases_lt}
use Rattle.std.specs.Prelude.{Result, IfErr, IsErrAnd}
use Rattle.packet_codec.proofs.Words.{Cells, IsBadAt, IsBadBefore, Reaches, Stop, Stops, drop_at, get_or-append_right, get_or-replicate, get_or-take, get_or_append_left, length-append, length-replicate, length-take-le, take-append-drop, take_at}

-- fronts of two equal lists
pub front_same : (a b s t : List ℕ) → length a ≡ length b → a ++ s ≡ b ++ t → (a ≡ b) × (s ≡ t)
front_same a b s t len e = (
  sym (take_at a s (length a) refl) ∙ ap (take (length a)) e ∙ take_at b t (length a) (sym len),
  sym (drop_at a s (length a) refl) ∙ ap (drop (length a)) e ∙ drop_at b t (length a) (sym len),
)

-- a longer list from a shorter one that begins the same
pub front_longer : (a b s t : List ℕ) → length a ≤ length b → a ++ s ≡ b ++ t → (more : List ℕ) × (b ≡ a ++ more) × (s ≡ more ++ t)
front_longer a b s t le e =
    let cut : b ≡ take (length a) b ++ drop (length a) b = sym (take-append-drop (length a) b) in
    let whole : a ++ s ≡ take (length a) b ++ (drop (length a) b ++ t) = e ∙ ap (λ (x : List ℕ). x ++ t) cut ∙ append_assoc (take (length a) b) (drop (length a) b) t in
    let parts = front_same a (take (length a) b) s (drop (length a) b ++ t) (sym (length-take-le (length a) b le)) whole in
    (drop (length a) b, cut ∙ ap (λ (x : List ℕ). x ++ drop (length a) b) (sym parts.0), parts.1)

-- two sets that are one have one first bad byte
pub before_same : (S T : List ℕ → Type 0) (rest : List ℕ) (left : ℕ) → ((z : List ℕ) → S z → T z) → ((z : List ℕ) → T z → S z) → IsBadBefore S rest left → IsBadBefore T rest left
before_same S T rest left to from b = record {
  at = b.at;
  place = b.place;
  bad = record {
    none = λ front tail s e. b.bad.none front tail (from front s) e;
    reaches = record { within = b.bad.reaches.within; more = b.bad.reaches.more; whole = to _ b.bad.reaches.whole };
    furthest = λ k r. b.bad.furthest k (record { within = r.within; more = r.more; whole = from _ r.whole });
  };
}

-- Where the fronts of the spellings in T are the spellings in S, a first bad byte in the front is one of the whole.
pub before_front : (S T : List ℕ → Type 0) (rest : List ℕ) (left : ℕ)
    → ((z : List ℕ) → T z → (front : List ℕ) × (back : List ℕ) × S front × (z ≡ front ++ back))
    → ((front : List ℕ) → S front → (back : List ℕ) × T (front ++ back))
    → IsBadBefore S rest left → IsBadBefore T rest left
before_front S T rest left parts some b = record {
  at = b.at;
  place = b.place;
  bad = record {
    none = λ z tail t e. let p = parts z t in b.bad.none p.0 (p.1 ++ tail) p.2 (e ∙ ap (λ (x : List ℕ). x ++ tail) p.3 ∙ append_assoc p.0 p.1 tail);
    reaches = let w = some _ b.bad.reaches.whole in record { within = b.bad.reaches.within; more = b.bad.reaches.more ++ w.0; whole = subst T (append_assoc (take b.at rest) b.bad.reaches.more w.0) w.1 };
    furthest = λ k r. go k r (parts _ r.whole);
  };
}
  where
    go : (k : ℕ) (r : Reaches T rest k) → (front : List ℕ) × (back : List ℕ) × S front × (take k rest ++ r.more ≡ front ++ back) → k ≤ b.at
    go k r p =
        let len : length (take k rest) ≡ k = length-take-le k rest r.within in
        ⊎_elim
        (λ lt.
        let q = front_longer p.0 (take k rest) p.1 r.more (omega arith) (sym p.3) in
        absurd (b.bad.none p.0 (q.0 ++ drop k rest) p.2 (sym (take-append-drop k rest) ∙ ap (λ (x : List ℕ). x ++ drop k rest) q.1 ∙ append_assoc p.0 q.0 (drop k rest))))
        (λ le.
        let q = front_longer (take k rest) p.0 r.more p.1 (omega arith) p.3 in
        b.bad.furthest k (record { within = r.within; more = q.0; whole = subst S q.1 p.2 }))
        (cases_lt (length p.0) k)

-- Where each spelling of T that agrees with the front has it whole, a first bad byte of what follows is one of the whole.
pub before_agreed : (T S : List ℕ → Type 0) (whole front rest : List ℕ) (left : ℕ)
    → whole ≡ front ++ rest
    → ((z s t : List ℕ) → T z → z ++ s ≡ front ++ t → (w : List ℕ) × (z ≡ front ++ w))
    → ((z : List ℕ) → T (front ++ z) → S z)
    → ((z : List ℕ) → S z → T (front ++ z))
    → IsBadBefore S rest left → IsBadBefore T whole left
before_agreed T S whole front rest left is agreed back on b =
    subst (λ (w : List ℕ). IsBadBefore T w left) (sym is) (record {
      at = length front + b.at;
      place = omega (arith, b.place, length-append front rest);
      bad = record {
        none = λ z tail t e.
            let q = agreed z tail rest t (sym e) in
            let same = front_same front front rest (q.0 ++ tail) refl (e ∙ ap (λ (x : List ℕ). x ++ tail) q.1 ∙ append_assoc front q.0 tail) in
            b.bad.none q.0 tail (back q.0 (subst T q.1 t)) same.1;
        reaches = record {
          within = let w = b.bad.reaches.within in omega (arith, length-append front rest);
          more = b.bad.reaches.more;
          whole = subst T (sym (cut b.at b.bad.reaches.more)) (on _ b.bad.reaches.whole);
        };
        furthest = λ k r. ⊎_elim (λ lt. omega arith) (λ le. far k r (k - length front) (omega arith)) (cases_lt k (length front));
      };
    })
  where
    cut : (j : ℕ) (more : List ℕ) → take (length front + j) (front ++ rest) ++ more ≡ front ++ (take j rest ++ more)
    cut j more = ap (λ (x : List ℕ). x ++ more) (take-append-add front rest j) ∙ append_assoc front (take j rest) more

    far : (k : ℕ) (r : Reaches T (front ++ rest) k) (j : ℕ) → k ≡ length front + j → k ≤ length front + b.at
    far k r j e =
        let whole : T (front ++ (take j rest ++ r.more)) = subst T (ap (λ (i : ℕ). take i (front ++ rest) ++ r.more) e ∙ cut j r.more) r.whole in
        let le = b.bad.furthest j (record { within = omega (arith, e, r.within, length-append front rest); more = r.more; whole = back _ whole }) in
        omega arith

-- The first byte that does not fit, or the end where bytes are missing.
pub bad_cell : (n : ℕ) (Fits : ℕ → ℕ → Type 0) (filler : ℕ) (rest : List ℕ) (i : ℕ)
    → ((k : ℕ) → k < n → Fits k filler)
    → i < n → i ≤ length rest
    → ((k : ℕ) → k < i → Fits k (get_or rest k 0))
    → (i < length rest → Fits i (get_or rest i 0) → ⊥)
    → IsBadAt (Cells n Fits) rest i
bad_cell n Fits filler rest i fill lt le good wrong = record {
  none = grind (arith, length-append, get_or_append_left);
  reaches = record {
    within = le;
    more = replicate (n - i) filler;
    whole = record {
      len = omega (arith, length-append (take i rest) (replicate (n - i) filler), length-take-le i rest le, length-replicate (n - i) filler);
      each = λ k kn. ⊎_elim
          (λ a. subst (Fits k) (sym (get_or_append_left (take i rest) (replicate (n - i) filler) 0 k (omega (arith, length-take-le i rest le)) ∙ get_or-take i rest k 0 a)) (good k a))
          (λ b. subst (Fits k) (sym (get_or-append_right (take i rest) (replicate (n - i) filler) i k 0 (length-take-le i rest le) b ∙ get_or-replicate (n - i) (k - i) filler 0 (omega arith))) (fill k kn))
          (cases_lt k i);
    };
  };
  furthest = λ k r. grind (arith, get_or_append_left, length-take-le, get_or-take);
}

pub before_cell : (n : ℕ) (Fits : ℕ → ℕ → Type 0) (filler : ℕ) (rest : List ℕ) (i : ℕ)
    → ((k : ℕ) → k < n → Fits k filler)
    → i < n → i ≤ length rest
    → ((k : ℕ) → k < i → Fits k (get_or rest k 0))
    → (i < length rest → Fits i (get_or rest i 0) → ⊥)
    → IsBadBefore (Cells n Fits) rest (length rest - i)
before_cell n Fits filler rest i fill lt le good wrong = record { at = i; place = omega arith; bad = bad_cell n Fits filler rest i fill lt le good wrong }

-- ---- what stopped a part stops the whole

pub stops_on : (S T : List ℕ → Type 0) (rest whole : List ℕ) (stop : Stop) → ((left : ℕ) → IsBadBefore S rest left → IsBadBefore T whole left) → Stops S rest stop → Stops T whole stop
stops_on S T rest whole stop on b = grind arith

pub stops_same : (S T : List ℕ → Type 0) (rest : List ℕ) (stop : Stop) → ((z : List ℕ) → S z → T z) → ((z : List ℕ) → T z → S z) → Stops S rest stop → Stops T rest stop
stops_same S T rest stop to from = stops_on S T rest rest stop (λ left. before_same S T rest left to from)

-- in what is handed on as it is
pub stops_through : {W : Type 0} (S T : List ℕ → Type 0) (rest whole : List ℕ) (r : Result W Stop) → ((left : ℕ) → IsBadBefore S rest left → IsBadBefore T whole left) → IfErr r (Stops S rest) → IfErr r (Stops T whole)
stops_through S T rest whole r on b = grind arith

-- at the exit of a `?`
pub stopped : {W : Type 0} (T : List ℕ → Type 0) (whole : List ℕ) (stop : Stop) (r : Result W Stop) → IsErrAnd r (λ d. d ≡ stop) → Stops T whole stop → IfErr r (Stops T whole)
stopped T whole stop r is bad = grind arith
