-- Kinds of spelling: values of two or three parts, and of a tag with parts behind it. Each has the laws of its parts,
-- and the first bad byte of the whole is that of a part.
use Rattle.std.proofs.Common.{◌≡◌, ℕ, ◌+◌, ◌-◌, ◌≤◌, List, [], ◌∷◌, ◌++◌, length, drop, get_or, refl, sym, ap, ◌∙◌, subst, append_assoc, arith}
use Rattle.std.specs.Prelude.{Result, IfErr, IsErrAnd}
use Rattle.packet_codec.proofs.Words.{After, Followed, IsBadBefore, Run, Spelled, Stop, Stops}
use Rattle.packet_codec.proofs.BadPlaces.{front_same, before_same, before_front, before_agreed, stops_on, stops_same, stopped}
use Rattle.packet_codec.proofs.NumberBytes.{run_one, one_of}

-- ---- one behind the other

-- one spelling for each value, and none begins another
abbrev pub IsApart : {V : Type 0} → (V → List ℕ) → (V → Type 0) → Type 0
IsApart {V} spell Is = (v w : V) (s t : List ℕ) → Is v → Is w → spell v ++ s ≡ spell w ++ t → v ≡ w

-- so the first values are the same, and what stands behind them
pub same_first : {V : Type 0} (spell : V → List ℕ) (Is : V → Type 0) (v w : V) (s t : List ℕ) → IsApart spell Is → Is v → Is w → spell v ++ s ≡ spell w ++ t → (v ≡ w) × (s ≡ t)
same_first {V} spell Is v w s t apart p q e =
    let same : v ≡ w = apart v w s t p q e in
    (same, (front_same (spell v) (spell w) s t (ap (λ (x : V). length (spell x)) same) e).1)

pub followed : {V : Type 0} (spell : V → List ℕ) (Is : V → Type 0) (Next : List ℕ → Type 0) (v : V) (z : List ℕ) → Is v → Next z → Followed spell Is Next (spell v ++ z)
followed spell Is Next v z is next = record { value = v; is = is; back = z; next = next; whole = refl }

-- bad in the first
pub followed_first : {V : Type 0} (spell : V → List ℕ) (Is : V → Type 0) (Next : List ℕ → Type 0) (rest : List ℕ) (left : ℕ)
    → (z : List ℕ) × Next z
    → IsBadBefore (Spelled spell Is) rest left → IsBadBefore (Followed spell Is Next) rest left
followed_first spell Is Next rest left some = before_front (Spelled spell Is) (Followed spell Is Next) rest left
    (λ z t. (spell t.value, t.back, (t.value, t.is, refl), t.whole))
    (λ front s. (some.0, record { value = s.0; is = s.1; back = some.0; next = some.1; whole = ap (λ (x : List ℕ). x ++ some.0) s.2 }))

-- bad behind the first
pub followed_next : {V : Type 0} (spell : V → List ℕ) (Is : V → Type 0) (Next : List ℕ → Type 0) (v : V) (whole rest : List ℕ) (left : ℕ)
    → IsApart spell Is → Is v → whole ≡ spell v ++ rest
    → IsBadBefore Next rest left → IsBadBefore (Followed spell Is Next) whole left
followed_next {V} spell Is Next v whole rest left apart is e = before_agreed (Followed spell Is Next) Next whole (spell v) rest left e
    (λ z s t h same. (h.back, h.whole ∙ ap (λ (x : V). spell x ++ h.back) (apart h.value v (h.back ++ s) t h.is is (agreed z s t h same))))
    (λ z h.
    let v_same : v ≡ h.value = apart v h.value z h.back is h.is h.whole in
    subst Next (sym (front_same (spell v) (spell h.value) z h.back (ap (λ (x : V). length (spell x)) v_same) h.whole).1) h.next)
    (λ z next. followed spell Is Next v z is next)
  where
    agreed : (z s t : List ℕ) (h : Followed spell Is Next z) → z ++ s ≡ spell v ++ t → spell h.value ++ (h.back ++ s) ≡ spell v ++ t
    agreed z s t h same = sym (append_assoc (spell h.value) h.back s) ∙ ap (λ (x : List ℕ). x ++ s) (sym h.whole) ∙ same

-- ---- two and three fields

abbrev pub Two : {A B : Type 0} → (A → List ℕ) → (A → Type 0) → (B → List ℕ) → (B → Type 0) → List ℕ → Type 0
Two sa IsA sb IsB = Followed sa IsA (Spelled sb IsB)

abbrev pub Three : {A B C : Type 0} → (A → List ℕ) → (A → Type 0) → (B → List ℕ) → (B → Type 0) → (C → List ℕ) → (C → Type 0) → List ℕ → Type 0
Three sa IsA sb IsB sc IsC = Followed sa IsA (Two sb IsB sc IsC)

pub two : {A B : Type 0} (sa : A → List ℕ) (IsA : A → Type 0) (sb : B → List ℕ) (IsB : B → Type 0) (a : A) (b : B) → IsA a → IsB b → Two sa IsA sb IsB (sa a ++ sb b)
two sa IsA sb IsB a b p q = followed sa IsA (Spelled sb IsB) a (sb b) p (b, q, refl)

pub three : {A B C : Type 0} (sa : A → List ℕ) (IsA : A → Type 0) (sb : B → List ℕ) (IsB : B → Type 0) (sc : C → List ℕ) (IsC : C → Type 0) (a : A) (b : B) (c : C) → IsA a → IsB b → IsC c → Three sa IsA sb IsB sc IsC (sa a ++ (sb b ++ sc c))
three sa IsA sb IsB sc IsC a b c p q r = followed sa IsA (Two sb IsB sc IsC) a (sb b ++ sc c) p (two sb IsB sc IsC b c q r)

-- bad in the first of them
pub two_first : {A B : Type 0} (sa : A → List ℕ) (IsA : A → Type 0) (sb : B → List ℕ) (IsB : B → Type 0) (bytes : List ℕ) (stop : Stop) → (b : B) × IsB b → Stops (Spelled sa IsA) bytes stop → Stops (Two sa IsA sb IsB) bytes stop
two_first sa IsA sb IsB bytes stop some = stops_on (Spelled sa IsA) (Two sa IsA sb IsB) bytes bytes stop (λ left. followed_first sa IsA (Spelled sb IsB) bytes left (sb some.0, (some.0, some.1, refl)))

pub three_first : {A B C : Type 0} (sa : A → List ℕ) (IsA : A → Type 0) (sb : B → List ℕ) (IsB : B → Type 0) (sc : C → List ℕ) (IsC : C → Type 0) (bytes : List ℕ) (stop : Stop) → (b : B) × IsB b → (c : C) × IsC c
    → Stops (Spelled sa IsA) bytes stop → Stops (Three sa IsA sb IsB sc IsC) bytes stop
three_first sa IsA sb IsB sc IsC bytes stop b c = stops_on (Spelled sa IsA) (Three sa IsA sb IsB sc IsC) bytes bytes stop (λ left. followed_first sa IsA (Two sb IsB sc IsC) bytes left (sb b.0 ++ sc c.0, two sb IsB sc IsC b.0 c.0 b.1 c.1))

-- bad behind the first
pub next_bad : {A : Type 0} (sa : A → List ℕ) (IsA : A → Type 0) (Next : List ℕ → Type 0) (a : A) (bytes rest : List ℕ) (stop : Stop) → IsApart sa IsA → IsA a → bytes ≡ sa a ++ rest → Stops Next rest stop → Stops (Followed sa IsA Next) bytes stop
next_bad sa IsA Next a bytes rest stop apart is e = stops_on Next (Followed sa IsA Next) rest bytes stop (λ left. followed_next sa IsA Next a bytes rest left apart is e)

pub two_whole : {A B : Type 0} (sa : A → List ℕ) (IsA : A → Type 0) (sb : B → List ℕ) (IsB : B → Type 0) (z : List ℕ) (f : Two sa IsA sb IsB z) → z ≡ sa f.value ++ sb f.next.0
two_whole sa IsA sb IsB z f = f.whole ∙ ap (λ (x : List ℕ). sa f.value ++ x) f.next.2

pub three_whole : {A B C : Type 0} (sa : A → List ℕ) (IsA : A → Type 0) (sb : B → List ℕ) (IsB : B → Type 0) (sc : C → List ℕ) (IsC : C → Type 0) (z : List ℕ) (f : Three sa IsA sb IsB sc IsC z) → z ≡ sa f.value ++ (sb f.next.value ++ sc f.next.next.0)
three_whole sa IsA sb IsB sc IsC z f = f.whole ∙ ap (λ (x : List ℕ). sa f.value ++ x) (two_whole sb IsB sc IsC f.back f.next)

pub two_same : {A B T : Type 0} (of : A → B → T) (sa : A → List ℕ) (IsA : A → Type 0) (sb : B → List ℕ) (IsB : B → Type 0) (a a' : A) (b b' : B) (s t : List ℕ) → IsApart sa IsA → IsApart sb IsB → IsA a → IsA a' → IsB b → IsB b'
    → sa a ++ (sb b ++ s) ≡ sa a' ++ (sb b' ++ t) → of a b ≡ of a' b'
two_same {A} of sa IsA sb IsB a a' b b' s t first second p p' q q' e =
    let f = same_first sa IsA a a' (sb b ++ s) (sb b' ++ t) first p p' e in
    ap (λ (x : A). of x b) f.0 ∙ ap (of a') (second b b' s t q q' f.1)

pub three_same : {A B C T : Type 0} (of : A → B → C → T) (sa : A → List ℕ) (IsA : A → Type 0) (sb : B → List ℕ) (IsB : B → Type 0) (sc : C → List ℕ) (IsC : C → Type 0) (a a' : A) (b b' : B) (c c' : C) (s t : List ℕ) → IsApart sa IsA → IsApart sb IsB → IsApart sc IsC
    → IsA a → IsA a' → IsB b → IsB b' → IsC c → IsC c' → sa a ++ (sb b ++ (sc c ++ s)) ≡ sa a' ++ (sb b' ++ (sc c' ++ t)) → of a b c ≡ of a' b' c'
three_same {A} of sa IsA sb IsB sc IsC a a' b b' c c' s t first second third p p' q q' r r' e =
    let f = same_first sa IsA a a' (sb b ++ (sc c ++ s)) (sb b' ++ (sc c' ++ t)) first p p' e in
    ap (λ (x : A). of x b c) f.0 ∙ two_same (of a') sb IsB sc IsC b b' c c' s t second third q q' r r' f.1

-- ---- values of two parts

pub record IsPair {A B T : Type 0} (sa : A → List ℕ) (IsA : A → Type 0) (sb : B → List ℕ) (IsB : B → Type 0) (spell : T → List ℕ) (Is : T → Type 0) (of : A → B → T) : Type 0 where
  pub is : (a : A) (b : B) → IsA a → IsB b → Is (of a b)
  pub parts : (t : T) → Is t → (a : A) × (b : B) × IsA a × IsB b × (of a b ≡ t)
  pub spelled : (a : A) (b : B) → spell (of a b) ≡ sa a ++ sb b

pub pair_bad : {A B T : Type 0} (sa : A → List ℕ) (IsA : A → Type 0) (sb : B → List ℕ) (IsB : B → Type 0) (spell : T → List ℕ) (Is : T → Type 0) (of : A → B → T) (bytes : List ℕ) (stop : Stop)
    → IsPair sa IsA sb IsB spell Is of → Stops (Two sa IsA sb IsB) bytes stop → Stops (Spelled spell Is) bytes stop
pair_bad sa IsA sb IsB spell Is of bytes stop pair = stops_same (Two sa IsA sb IsB) (Spelled spell Is) bytes stop
    (λ z f. (of f.value f.next.0, pair.is f.value f.next.0 f.is f.next.1, two_whole sa IsA sb IsB z f ∙ sym (pair.spelled f.value f.next.0)))
    (λ z s. let p = pair.parts s.0 s.1 in subst (Two sa IsA sb IsB) (sym (s.2 ∙ ap spell (sym p.4) ∙ pair.spelled p.0 p.1)) (two sa IsA sb IsB p.0 p.1 p.2 p.3))

pub pair_apart : {A B T : Type 0} (sa : A → List ℕ) (IsA : A → Type 0) (sb : B → List ℕ) (IsB : B → Type 0) (spell : T → List ℕ) (Is : T → Type 0) (of : A → B → T)
    → IsPair sa IsA sb IsB spell Is of → IsApart sa IsA → IsApart sb IsB → IsApart spell Is
pair_apart {A} {B} {T} sa IsA sb IsB spell Is of pair first second v w s t p q e =
    let x = pair.parts v p in
    let y = pair.parts w q in
    let whole : (a : A) (b : B) (rest : List ℕ) → spell (of a b) ++ rest ≡ sa a ++ (sb b ++ rest) = λ a b rest. ap (λ (z : List ℕ). z ++ rest) (pair.spelled a b) ∙ append_assoc (sa a) (sb b) rest in
    let same = sym (whole x.0 x.1 s) ∙ ap (λ (u : T). spell u ++ s) x.4 ∙ e ∙ ap (λ (u : T). spell u ++ t) (sym y.4) ∙ whole y.0 y.1 t in
    sym x.4 ∙ two_same of sa IsA sb IsB x.0 y.0 x.1 y.1 s t first second x.2 y.2 x.3 y.3 same ∙ y.4

-- ---- values of three parts

pub record IsTriple {A B C T : Type 0} (sa : A → List ℕ) (IsA : A → Type 0) (sb : B → List ℕ) (IsB : B → Type 0) (sc : C → List ℕ) (IsC : C → Type 0) (spell : T → List ℕ) (Is : T → Type 0) (of : A → B → C → T) : Type 0 where
  pub is : (a : A) (b : B) (c : C) → IsA a → IsB b → IsC c → Is (of a b c)
  pub parts : (t : T) → Is t → (a : A) × (b : B) × (c : C) × IsA a × IsB b × IsC c × (of a b c ≡ t)
  pub spelled : (a : A) (b : B) (c : C) → spell (of a b c) ≡ sa a ++ (sb b ++ sc c)

pub triple_bad : {A B C T : Type 0} (sa : A → List ℕ) (IsA : A → Type 0) (sb : B → List ℕ) (IsB : B → Type 0) (sc : C → List ℕ) (IsC : C → Type 0) (spell : T → List ℕ) (Is : T → Type 0) (of : A → B → C → T) (bytes : List ℕ) (stop : Stop)
    → IsTriple sa IsA sb IsB sc IsC spell Is of → Stops (Three sa IsA sb IsB sc IsC) bytes stop → Stops (Spelled spell Is) bytes stop
triple_bad sa IsA sb IsB sc IsC spell Is of bytes stop triple = stops_same (Three sa IsA sb IsB sc IsC) (Spelled spell Is) bytes stop
    (λ z f.
    let n = f.next in
    (of f.value n.value n.next.0, triple.is f.value n.value n.next.0 f.is n.is n.next.1, three_whole sa IsA sb IsB sc IsC z f ∙ sym (triple.spelled f.value n.value n.next.0)))
    (λ z s. let p = triple.parts s.0 s.1 in subst (Three sa IsA sb IsB sc IsC) (sym (s.2 ∙ ap spell (sym p.6) ∙ triple.spelled p.0 p.1 p.2)) (three sa IsA sb IsB sc IsC p.0 p.1 p.2 p.3 p.4 p.5))

pub triple_apart : {A B C T : Type 0} (sa : A → List ℕ) (IsA : A → Type 0) (sb : B → List ℕ) (IsB : B → Type 0) (sc : C → List ℕ) (IsC : C → Type 0) (spell : T → List ℕ) (Is : T → Type 0) (of : A → B → C → T)
    → IsTriple sa IsA sb IsB sc IsC spell Is of → IsApart sa IsA → IsApart sb IsB → IsApart sc IsC → IsApart spell Is
triple_apart {A} {B} {C} {T} sa IsA sb IsB sc IsC spell Is of triple first second third v w s t p q e =
    let x = triple.parts v p in
    let y = triple.parts w q in
    let same = sym (whole x.0 x.1 x.2 s) ∙ ap (λ (u : T). spell u ++ s) x.6 ∙ e ∙ ap (λ (u : T). spell u ++ t) (sym y.6) ∙ whole y.0 y.1 y.2 t in
    sym x.6 ∙ three_same of sa IsA sb IsB sc IsC x.0 y.0 x.1 y.1 x.2 y.2 s t first second third x.3 y.3 x.4 y.4 x.5 y.5 same ∙ y.6
  where
    whole : (a : A) (b : B) (c : C) (rest : List ℕ) → spell (of a b c) ++ rest ≡ sa a ++ (sb b ++ (sc c ++ rest))
    whole a b c rest = ap (λ (z : List ℕ). z ++ rest) (triple.spelled a b c) ∙ append_assoc (sa a) (sb b ++ sc c) rest ∙ ap (λ (z : List ℕ). sa a ++ z) (append_assoc (sb b) (sc c) rest)

-- ---- a tag, and what follows it: the tags are `low` and the `most` numbers above it

pub record IsSum {T : Type 0} (low most : ℕ) (Next : ℕ → List ℕ → Type 0) (spell : T → List ℕ) (Is : T → Type 0) : Type 0 where
  pub parts : (t : T) → Is t → (n : ℕ) × (back : List ℕ) × (n ≤ most) × Next n back × (spell t ≡ (low + n) ∷ back)
  pub made : (n : ℕ) (back : List ℕ) → n ≤ most → Next n back → Spelled spell Is ((low + n) ∷ back)
  pub some : (n : ℕ) → n ≤ most → (back : List ℕ) × Next n back

-- bad in the tag
pub tag_bad : {T : Type 0} (low most : ℕ) (Next : ℕ → List ℕ → Type 0) (spell : T → List ℕ) (Is : T → Type 0) (bytes : List ℕ) (stop : Stop)
    → IsSum low most Next spell Is → Stops (Run 1 low (low + most)) bytes stop → Stops (Spelled spell Is) bytes stop
tag_bad low most Next spell Is bytes stop sum = stops_on (Run 1 low (low + most)) (Spelled spell Is) bytes bytes stop (λ left. before_front (Run 1 low (low + most)) (Spelled spell Is) bytes left
    (λ z s. let p = sum.parts s.0 s.1 in ((low + p.0) ∷ [], p.1, run_one (low + p.0) low (low + most) (omega arith) (omega (arith, p.2)), s.2 ∙ p.4))
    (λ front f.
    let b = f.each 0 (omega arith) in
    let n : ℕ = get_or front 0 0 - low in
    let some = sum.some n (omega (arith, b.0, b.1)) in
    let tag : (low + n) ∷ [] ≡ front = ap (λ (x : ℕ). x ∷ []) (omega (arith, b.0)) ∙ sym (one_of front f.len) in
    (some.0, subst (λ (x : List ℕ). Spelled spell Is (x ++ some.0)) tag (sum.made n some.0 (omega (arith, b.0, b.1)) some.1))))

pub tag_stops : {T W : Type 0} (low most : ℕ) (Next : ℕ → List ℕ → Type 0) (spell : T → List ℕ) (Is : T → Type 0) (bytes : List ℕ) (stop : Stop) (r : Result W Stop)
    → IsSum low most Next spell Is → IsErrAnd r (λ d. d ≡ stop) → Stops (Run 1 low (low + most)) bytes stop → IfErr r (Stops (Spelled spell Is) bytes)
tag_stops low most Next spell Is bytes stop r sum is bad = stopped (Spelled spell Is) bytes stop r is (tag_bad low most Next spell Is bytes stop sum bad)

-- what may follow a tag of the sum
pub next_after : {T : Type 0} (low most : ℕ) (Next : ℕ → List ℕ → Type 0) (spell : T → List ℕ) (Is : T → Type 0) (n : ℕ) (rest : List ℕ) (left : ℕ)
    → IsSum low most Next spell Is → n ≤ most → IsBadBefore (Next n) rest left → IsBadBefore (After (low + n) (Spelled spell Is)) rest left
next_after low most Next spell Is n rest left sum few = before_same (Next n) (After (low + n) (Spelled spell Is)) rest left
    (λ z h. sum.made n z few h)
    (λ z h.
    let p = sum.parts h.0 h.1 in
    let both = h.2 ∙ p.4 in
    let same : n ≡ p.0 = omega (arith, ap (λ (x : List ℕ). get_or x 0 0) both) in
    subst (Next n) (sym (ap (drop 1) both)) (subst (λ (m : ℕ). Next m p.1) (sym same) p.3))

-- bad behind the tag
pub after_whole : {T : Type 0} (low most : ℕ) (Next : ℕ → List ℕ → Type 0) (spell : T → List ℕ) (Is : T → Type 0) (tag : ℕ) (bytes rest : List ℕ) (left : ℕ)
    → IsSum low most Next spell Is → bytes ≡ tag ∷ rest → IsBadBefore (After tag (Spelled spell Is)) rest left → IsBadBefore (Spelled spell Is) bytes left
after_whole low most Next spell Is tag bytes rest left sum e = before_agreed (Spelled spell Is) (After tag (Spelled spell Is)) bytes (tag ∷ []) rest left e
    (λ z s t h same.
    let p = sum.parts h.0 h.1 in
    let whole : z ≡ (low + p.0) ∷ p.1 = h.2 ∙ p.4 in
    (p.1, whole ∙ ap (λ (x : ℕ). x ∷ p.1) (ap (λ (x : List ℕ). get_or x 0 0) (ap (λ (x : List ℕ). x ++ s) (sym whole) ∙ same))))
    (λ z h. h)
    (λ z h. h)

pub next_whole : {T : Type 0} (low most : ℕ) (Next : ℕ → List ℕ → Type 0) (spell : T → List ℕ) (Is : T → Type 0) (n tag : ℕ) (bytes rest : List ℕ) (left : ℕ)
    → IsSum low most Next spell Is → n ≤ most → tag ≡ low + n → bytes ≡ tag ∷ rest → IsBadBefore (Next n) rest left → IsBadBefore (Spelled spell Is) bytes left
next_whole low most Next spell Is n tag bytes rest left sum few same e bad =
    after_whole low most Next spell Is (low + n) bytes rest left sum (e ∙ ap (λ (x : ℕ). x ∷ rest) same) (next_after low most Next spell Is n rest left sum few bad)

pub next_stops : {T W : Type 0} (low most : ℕ) (Next : ℕ → List ℕ → Type 0) (spell : T → List ℕ) (Is : T → Type 0) (n tag : ℕ) (bytes rest : List ℕ) (stop : Stop) (r : Result W Stop)
    → IsSum low most Next spell Is → n ≤ most → tag ≡ low + n → bytes ≡ tag ∷ rest → IsErrAnd r (λ d. d ≡ stop) → Stops (Next n) rest stop → IfErr r (Stops (Spelled spell Is) bytes)
next_stops low most Next spell Is n tag bytes rest stop r sum few same e is bad = stopped (Spelled spell Is) bytes stop r is (stops_on (Next n) (Spelled spell Is) rest bytes stop (λ left. next_whole low most Next spell Is n tag bytes rest left sum few same e) bad)

pub after_stops : {T W : Type 0} (low most : ℕ) (Next : ℕ → List ℕ → Type 0) (spell : T → List ℕ) (Is : T → Type 0) (n tag : ℕ) (rest : List ℕ) (stop : Stop) (r : Result W Stop)
    → IsSum low most Next spell Is → n ≤ most → tag ≡ low + n → IsErrAnd r (λ d. d ≡ stop) → Stops (Next n) rest stop → IfErr r (Stops (After tag (Spelled spell Is)) rest)
after_stops low most Next spell Is n tag rest stop r sum few same is bad = stopped (After tag (Spelled spell Is)) rest stop r is (stops_on (Next n) (After tag (Spelled spell Is)) rest rest stop
    (λ left b. subst (λ (t : ℕ). IsBadBefore (After t (Spelled spell Is)) rest left) (sym same) (next_after low most Next spell Is n rest left sum few b)) bad)
