-- Numbers as fields: where their first bad byte is, and that each has one spelling.
use Rattle.std.proofs.Common.{◌≡◌, ℕ, ◌^◌, ◌<◌, List, get_or, refl, sym, subst, arith}
use Rattle.packet_codec.proofs.Words.{IsNumber, Run, Spelled, Stop, Stops, UpTo, number}
use Rattle.packet_codec.specs.Numbers.{half, IsHalf, word, IsWord, small, IsSmall, small_limits, capped, IsCapped}
use Rattle.packet_codec.proofs.BadPlaces.{front_same, stops_same}
use Rattle.packet_codec.proofs.PartLaws.{IsApart}
use Rattle.packet_codec.specs.declared.fields.numbers.Small.{Small}
use Rattle.packet_codec.proofs.NumberBytes.{Bytes, EachUpTo, bytes_2, bytes_4, bytes_8, same_2, same_4, same_8, number_2, number_4, number_8, run_one, one_of, run_bytes, run_any, up_to_each, up_to_bytes}

-- ---- two bytes, four, and eight

pub half_bad : (bytes : List ℕ) (stop : Stop) → Stops (Run 2 0 255) bytes stop → Stops (Spelled half IsHalf) bytes stop
half_bad bytes stop = stops_same (Run 2 0 255) (Spelled half IsHalf) bytes stop (λ z h. number_2 z h.len (run_bytes 2 z h)) (λ z s. subst (Run 2 0 255) (sym s.2) (run_any 2 (half s.0) refl (bytes_2 s.0)))

pub word_bad : (bytes : List ℕ) (stop : Stop) → Stops (Run 4 0 255) bytes stop → Stops (Spelled word IsWord) bytes stop
word_bad bytes stop = stops_same (Run 4 0 255) (Spelled word IsWord) bytes stop (λ z h. number_4 z h.len (run_bytes 4 z h)) (λ z s. subst (Run 4 0 255) (sym s.2) (run_any 4 (word s.0) refl (bytes_4 s.0)))

pub number_bad : (bytes : List ℕ) (stop : Stop) → Stops (Run 8 0 255) bytes stop → Stops (Spelled number IsNumber) bytes stop
number_bad bytes stop = stops_same (Run 8 0 255) (Spelled number IsNumber) bytes stop (λ z h. number_8 z h.len (run_bytes 8 z h)) (λ z s. subst (Run 8 0 255) (sym s.2) (run_any 8 (number s.0) refl (bytes_8 s.0)))

pub half_apart : IsApart half IsHalf
half_apart x y s t p q e = same_2 x y p q (front_same (half x) (half y) s t refl e).0

pub word_apart : IsApart word IsWord
word_apart x y s t p q e = same_4 x y p q (front_same (word x) (word y) s t refl e).0

pub number_apart : IsApart number IsNumber
number_apart x y s t p q e = same_8 x y p q (front_same (number x) (number y) s t refl e).0

-- ---- eight bytes of a number below 2^48

small_bytes : Bytes small_limits
small_bytes = grind arith

small_each : (x : Small) → IsSmall x → EachUpTo small_limits (small x)
small_each x h = (omega arith, (omega arith, (omega arith, (omega arith, (omega arith, (omega arith, (omega arith, (omega arith, tt))))))))

-- of eight bytes within the limits
pub is_small : (z : List ℕ) (n : ℕ) → n < 2 ^ 64 → UpTo small_limits z → z ≡ number n → n < 2 ^ 48
is_small z n lt h e = grind arith

pub small_bad : (bytes : List ℕ) (stop : Stop) → Stops (UpTo small_limits) bytes stop → Stops (Spelled small IsSmall) bytes stop
small_bad bytes stop = stops_same (UpTo small_limits) (Spelled small IsSmall) bytes stop
    (λ z h. let n = number_8 z h.len (up_to_bytes small_limits z small_bytes h) in (record { number = n.0 }, is_small z n.0 n.1 h n.2, n.2))
    (λ z s. subst (UpTo small_limits) (sym s.2) (up_to_each small_limits (small s.0) (small_each s.0 s.1)))

pub small_apart : IsApart small IsSmall
small_apart x y s t p q e = grind arith

-- ---- a byte up to a limit

pub capped_bad : (most : ℕ) (bytes : List ℕ) (stop : Stop) → Stops (Run 1 0 most) bytes stop → Stops (Spelled (capped most) (IsCapped most)) bytes stop
capped_bad most bytes stop = stops_same (Run 1 0 most) (Spelled (capped most) (IsCapped most)) bytes stop
    (λ z h. (record { byte = get_or z 0 0 }, (h.each 0 (omega arith)).1, one_of z h.len))
    (λ z s. subst (Run 1 0 most) (sym s.2) (run_one s.0.byte 0 most (omega arith) s.1))

pub capped_apart : (most : ℕ) → IsApart (capped most) (IsCapped most)
capped_apart most x y s t p q e = grind arith
