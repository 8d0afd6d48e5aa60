-- Texts and lists of inserts: a count in a byte, and so many behind it.
use Rattle.std.proofs.Common.{◌≡◌, ℕ, zero, suc, ◌+◌, ◌*◌, ◌<◌, ◌≤◌, List, [], ◌∷◌, ◌++◌, length, take, drop, get_or, refl, sym, ap, ◌∙◌, subst, append_assoc, arith}
use Rattle.std.specs.Prelude.{replicate}
use Rattle.packet_codec.proofs.Words.{AreCounted, Batch, Each, Followed, Insert, IsBadBefore, IsInsert, MOST_INSERTS, Run, Spelled, batch, batch_head, counted, get_or-replicate, get_or_default, insert, inserts, length-append, length-replicate, take_more, text}
use Rattle.log_records.specs.declared.text.TheConstants.{MAX_TEXT}
use Rattle.log_records.specs.Text.{IsText}
use Rattle.packet_codec.proofs.BadPlaces.{front_same, before_same}
use Rattle.packet_codec.proofs.PartLaws.{IsApart, IsSum, followed_first, followed_next}

-- ---- texts

-- so many printable bytes are a text
is_text : (n : ℕ) (z : List ℕ) → n ≤ MAX_TEXT → Run n 32 126 z → IsText z
is_text n z few r = grind (arith, get_or_default)

pub text_sum : IsSum 0 MAX_TEXT (λ n z. Run n 32 126 z) text IsText
text_sum = record {
  parts = λ t h. (length t, t, h.len, record { len = refl; each = λ k lt. h.bytes k 0 lt }, ap (λ (m : ℕ). m ∷ t) (omega arith));
  made = λ n z few r. (z, is_text n z few r, ap (λ (m : ℕ). m ∷ z) (omega (arith, r.len)));
  some = λ n few. (
    replicate n 32,
    record {
      len = length-replicate n 32;
      each = λ k lt. subst (λ (b : ℕ). (32 ≤ b) × (b ≤ 126)) (sym (get_or-replicate n k 32 0 lt)) (omega arith, omega arith);
    },
  );
}

pub text_apart : IsApart text IsText
text_apart x y s t p q e = (front_same x y s t (ap (λ (z : List ℕ). get_or z 0 0) e) (ap (drop 1) e)).0

pub some_text : (x : List ℕ) × IsText x
some_text = ([], is_text 0 [] (omega arith) (record { len = refl; each = λ k lt. absurd (omega arith) }))

-- ---- inserts

pub length-inserts : (xs : List Insert) → length (inserts xs) ≡ 30 * length xs
length-inserts [] = refl
length-inserts (x ∷ xs) = let e = length-inserts xs in omega (arith, length-append (insert x) (inserts xs))

pub batch_room : (b : Batch) → length b.inserts ≤ MOST_INSERTS → length (batch b) ≤ 1929
batch_room b few = omega (arith, length-append (batch_head b.bound (length b.inserts)) (inserts b.inserts), length-inserts b.inserts)

pub inserts_more : (xs : List Insert) (x : Insert) → inserts (xs ++ x ∷ []) ≡ inserts xs ++ insert x
inserts_more [] x = refl
inserts_more (y ∷ xs) x = ap (λ (z : List ℕ). insert y ++ z) (inserts_more xs x) ∙ sym (append_assoc (insert y) (inserts xs) (insert x))

-- one more insert is read
pub inserts_read : (bytes : List ℕ) (count : ℕ) (xs : List Insert) (x : Insert) (rest behind : List ℕ) → bytes ≡ count ∷ (inserts xs ++ rest) → rest ≡ insert x ++ behind → bytes ≡ count ∷ (inserts (xs ++ x ∷ []) ++ behind)
inserts_read bytes count xs x rest behind e f = e ∙ ap (λ (z : List ℕ). count ∷ z) (ap (λ (z : List ℕ). inserts xs ++ z) f ∙ sym (append_assoc (inserts xs) (insert x) behind) ∙ ap (λ (z : List ℕ). z ++ behind) (sym (inserts_more xs x)))

-- one more insert is written
pub inserts_written : (text front bytes : List ℕ) (xs : List Insert) (i : ℕ) (d : Insert) → i < length xs → bytes ≡ insert (get_or xs i d) → text ≡ (front ++ inserts (take i xs)) ++ bytes → text ≡ front ++ inserts (take (i + 1) xs)
inserts_written text front bytes xs i d lt e f =
    let more : inserts (take (i + 1) xs) ≡ inserts (take i xs) ++ insert (get_or xs i d) = ap inserts (take_more xs i d lt) ∙ inserts_more (take i xs) (get_or xs i d) in
    f ∙ append_assoc front (inserts (take i xs)) bytes ∙ ap (λ (z : List ℕ). front ++ (inserts (take i xs) ++ z)) e ∙ ap (λ (z : List ℕ). front ++ z) (sym more)

-- so many inserts, one behind the other
pub record AreInserts (n : ℕ) (bytes : List ℕ) : Type 0 where
  pub list : List Insert
  pub count : length list ≡ n
  pub each : Each IsInsert list
  pub whole : bytes ≡ inserts list

some_inserts : (x : Insert) → IsInsert x → (n : ℕ) → (z : List ℕ) × AreInserts n z
some_inserts x is zero = ([], record { list = []; count = refl; each = tt; whole = refl })
some_inserts x is (suc n) =
    let xs = (some_inserts x is n).1 in
    (inserts (x ∷ xs.list), record { list = x ∷ xs.list; count = ap suc xs.count; each = (is, xs.each); whole = refl })

-- one and then the others
one_more : (n : ℕ) (z : List ℕ) → Followed insert IsInsert (AreInserts n) z → AreInserts (suc n) z
one_more n z f = record { list = f.value ∷ f.next.list; count = ap suc f.next.count; each = (f.is, f.next.each); whole = f.whole ∙ ap (λ (x : List ℕ). insert f.value ++ x) f.next.whole }

one_first : (n : ℕ) (z : List ℕ) → AreInserts (suc n) z → Followed insert IsInsert (AreInserts n) z
one_first n z s = go s.list s.count s.each s.whole
  where
    go : (xs : List Insert) → length xs ≡ suc n → Each IsInsert xs → z ≡ inserts xs → Followed insert IsInsert (AreInserts n) z
    go [] len each e = absurd (omega (arith, len))
    go (x ∷ xs) len each e = record { value = x; is = each.0; back = inserts xs; next = record { list = xs; count = omega (arith, len); each = each.1; whole = refl }; whole = e }

-- bad in an insert behind others
pub inserts_bad : (insert_apart : IsApart insert IsInsert) (some : (x : Insert) × IsInsert x) (xs : List Insert) (n : ℕ) (bytes rest : List ℕ) (left : ℕ)
    → length xs < n → Each IsInsert xs → bytes ≡ inserts xs ++ rest → IsBadBefore (Spelled insert IsInsert) rest left → IsBadBefore (AreInserts n) bytes left
inserts_bad apart some xs zero bytes rest left lt each e bad = absurd (omega (arith, lt))
inserts_bad apart some [] (suc n) bytes rest left lt each e bad =
    before_same (Followed insert IsInsert (AreInserts n)) (AreInserts (suc n)) bytes left (one_more n) (one_first n)
    (followed_first insert IsInsert (AreInserts n) bytes left (some_inserts some.0 some.1 n) (subst (λ (z : List ℕ). IsBadBefore (Spelled insert IsInsert) z left) (sym e) bad))
inserts_bad apart some (x ∷ xs) (suc n) bytes rest left lt each e bad =
    before_same (Followed insert IsInsert (AreInserts n)) (AreInserts (suc n)) bytes left (one_more n) (one_first n)
    (followed_next insert IsInsert (AreInserts n) x bytes (inserts xs ++ rest) left apart each.0 (e ∙ append_assoc (insert x) (inserts xs) rest)
    (inserts_bad apart some xs n (inserts xs ++ rest) rest left (omega (arith, lt)) each.1 refl bad))

pub counted_sum : (some : (x : Insert) × IsInsert x) → IsSum 0 MOST_INSERTS AreInserts counted AreCounted
counted_sum some = record {
  parts = λ xs h. (length xs, inserts xs, h.count, record { list = xs; count = refl; each = h.each; whole = refl }, ap (λ (m : ℕ). m ∷ inserts xs) (omega arith));
  made = λ n z few s. (s.list, record { count = omega (arith, s.count); each = s.each }, ap (λ (m : ℕ). m ∷ z) (omega (arith, s.count)) ∙ ap (λ (x : List ℕ). length s.list ∷ x) s.whole);
  some = λ n few. some_inserts some.0 some.1 n;
}

inserts_same : (apart : IsApart insert IsInsert) (xs ys : List Insert) (s t : List ℕ) → length xs ≡ length ys → Each IsInsert xs → Each IsInsert ys → inserts xs ++ s ≡ inserts ys ++ t → xs ≡ ys
inserts_same apart [] [] s t len p q e = refl
inserts_same apart [] (y ∷ ys) s t len p q e = absurd (omega (arith, len))
inserts_same apart (x ∷ xs) [] s t len p q e = absurd (omega (arith, len))
inserts_same apart (x ∷ xs) (y ∷ ys) s t len p q e = grind (arith, inserts_same apart xs ys s t)

pub counted_apart : IsApart insert IsInsert → IsApart counted AreCounted
counted_apart apart x y s t p q e = inserts_same apart x y s t (ap (λ (z : List ℕ). get_or z 0 0) e) p.each q.each (ap (drop 1) e)
