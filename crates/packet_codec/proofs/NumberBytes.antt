-- Numbers and their bytes.
use Rattle.std.proofs.Common.{◌≡◌, ℕ, zero, suc, ◌^◌, ◌<◌, ◌≤◌, List, [], ◌∷◌, length, get_or, refl, sym, ap, ◌∙◌, arith}
use Rattle.std.specs.Int.{w16, w32, w64, to_be_bytes, from_be_bytes}
use Rattle.std.proofs.lemmas.Nat.{be_bytes_2, be_bytes_4, be_bytes_8, from_be_bytes-to_be_bytes_2, from_be_bytes-to_be_bytes_4, from_be_bytes-to_be_bytes_8}
use Rattle.packet_codec.proofs.Words.{Run, UpTo, get_or_past}

-- each is a byte
pub record Bytes (z : List ℕ) : Type 0 where
  pub at : (k : ℕ) → get_or z k 0 < 256

pub bytes_none : Bytes []
bytes_none = record { at = λ k. omega arith }

pub bytes_cons : (b : ℕ) (z : List ℕ) → b < 256 → Bytes z → Bytes (b ∷ z)
bytes_cons b z h t = grind arith

pub bytes_2 : (n : ℕ) → Bytes (to_be_bytes w16 n)
bytes_2 n = bytes_cons _ _ (omega arith) (bytes_cons _ _ (omega arith) bytes_none)

pub bytes_4 : (n : ℕ) → Bytes (to_be_bytes w32 n)
bytes_4 n = bytes_cons _ _ (omega arith) (bytes_cons _ _ (omega arith) (bytes_cons _ _ (omega arith) (bytes_cons _ _ (omega arith) bytes_none)))

pub bytes_8 : (n : ℕ) → Bytes (to_be_bytes w64 n)
bytes_8 n = grind (arith, bytes_cons)

-- the same bytes are of the same number
pub same_2 : (m n : ℕ) → m < 2 ^ 16 → n < 2 ^ 16 → to_be_bytes w16 m ≡ to_be_bytes w16 n → m ≡ n
same_2 m n p q e = sym (from_be_bytes-to_be_bytes_2 m p) ∙ ap (from_be_bytes w16) e ∙ from_be_bytes-to_be_bytes_2 n q

pub same_4 : (m n : ℕ) → m < 2 ^ 32 → n < 2 ^ 32 → to_be_bytes w32 m ≡ to_be_bytes w32 n → m ≡ n
same_4 m n p q e = sym (from_be_bytes-to_be_bytes_4 m p) ∙ ap (from_be_bytes w32) e ∙ from_be_bytes-to_be_bytes_4 n q

pub same_8 : (m n : ℕ) → m < 2 ^ 64 → n < 2 ^ 64 → to_be_bytes w64 m ≡ to_be_bytes w64 n → m ≡ n
same_8 m n p q e = sym (from_be_bytes-to_be_bytes_8 m p) ∙ ap (from_be_bytes w64) e ∙ from_be_bytes-to_be_bytes_8 n q

-- so many bytes are a number's
pub number_2 : (z : List ℕ) → length z ≡ 2 → Bytes z → (n : ℕ) × (n < 2 ^ 16) × (z ≡ to_be_bytes w16 n)
number_2 z len h = (from_be_bytes w16 z, omega (arith, h.at 0, h.at 1), sym (be_bytes_2 z _ len h.at refl))

pub number_4 : (z : List ℕ) → length z ≡ 4 → Bytes z → (n : ℕ) × (n < 2 ^ 32) × (z ≡ to_be_bytes w32 n)
number_4 z len h = (from_be_bytes w32 z, omega (arith, h.at 0, h.at 1, h.at 2, h.at 3), sym (be_bytes_4 z _ len h.at refl))

pub number_8 : (z : List ℕ) → length z ≡ 8 → Bytes z → (n : ℕ) × (n < 2 ^ 64) × (z ≡ to_be_bytes w64 n)
number_8 z len h = (from_be_bytes w64 z, omega (arith, h.at 0, h.at 1, h.at 2, h.at 3, h.at 4, h.at 5, h.at 6, h.at 7), sym (be_bytes_8 z _ len h.at refl))

-- ---- any bytes

pub run_bytes : (n : ℕ) (z : List ℕ) → Run n 0 255 z → Bytes z
run_bytes n z h = grind (arith, get_or_past)

-- one byte
pub run_one : (b low high : ℕ) → low ≤ b → b ≤ high → Run 1 low high (b ∷ [])
run_one b low high p q = grind arith

pub one_of : (z : List ℕ) → length z ≡ 1 → z ≡ get_or z 0 0 ∷ []
one_of [] l = absurd (omega arith)
one_of (a ∷ []) l = refl
one_of (a ∷ b ∷ z) l = absurd (omega arith)

pub run_any : (n : ℕ) (z : List ℕ) → length z ≡ n → Bytes z → Run n 0 255 z
run_any n z len h = record { len = len; each = λ k lt. (omega arith, omega (arith, h.at k)) }

-- ---- limits, byte by byte

abbrev pub EachUpTo : List ℕ → List ℕ → Type 0
EachUpTo [] [] = Unit {0}
EachUpTo [] (b ∷ bs) = ⊥
EachUpTo (l ∷ ls) [] = ⊥
EachUpTo (l ∷ ls) (b ∷ bs) = (b ≤ l) × EachUpTo ls bs

pub up_to_len : (ls bs : List ℕ) → EachUpTo ls bs → length bs ≡ length ls
up_to_len [] [] h = refl
up_to_len [] (b ∷ bs) h = absurd h
up_to_len (l ∷ ls) [] h = absurd h
up_to_len (l ∷ ls) (b ∷ bs) h = ap suc (up_to_len ls bs h.1)

pub up_to_at : (ls bs : List ℕ) → EachUpTo ls bs → (k : ℕ) → k < length ls → get_or bs k 0 ≤ get_or ls k 0
up_to_at [] [] h k lt = omega arith
up_to_at [] (b ∷ bs) h k lt = absurd h
up_to_at (l ∷ ls) [] h k lt = absurd h
up_to_at (l ∷ ls) (b ∷ bs) h zero lt = h.0
up_to_at (l ∷ ls) (b ∷ bs) h (suc k) lt = up_to_at ls bs h.1 k (omega arith)

pub up_to_each : (ls bs : List ℕ) → EachUpTo ls bs → UpTo ls bs
up_to_each ls bs h = record { len = up_to_len ls bs h; each = up_to_at ls bs h }

pub up_to_bytes : (ls z : List ℕ) → Bytes ls → UpTo ls z → Bytes z
up_to_bytes ls z small h = grind (arith, get_or_past)
