-- Where bytes stop being the front of a packet's spelling.
use Rattle.std.proofs.Common.{◌≡◌, ⊎_elim, ℕ, ◌+◌, ◌-◌, ◌<◌, ◌≤◌, List, [], ◌++◌, length, take, sym, ap, ◌∙◌, subst, append-nil, append_assoc, length-append, arith}
use Rattle.std.proofs.Math.Seq.{take-append-add, take-append_seam}
use Rattle.std.proofs.lemmas.Bool.{cases_lt}
use Rattle.packet_codec.proofs.Words.{IsBadBefore, IsPacket, Reaches, length-take-le, packet}
use Rattle.turn_defs.specs.declared.packet.Packet.{Packet}
use Rattle.packet_codec.specs.Spelled.{Packets}
use Rattle.packet_codec.specs.Refused.{IsBadPacket}
use Rattle.packet_codec.proofs.PacketParts.{packet_apart}

pub bad_one : (bytes : List ℕ) (m n : ℕ) → IsBadPacket bytes m → IsBadPacket bytes n → m ≡ n
bad_one bytes m n a b = let p = a.furthest n b.reaches in let q = b.furthest m a.reaches in omega arith

-- the bytes that are left behind a packet's spelling are none, or no packet is spelled by all
pub whole_one : (bytes rest : List ℕ) (p q : Packet) → IsPacket p → bytes ≡ packet p ++ rest → IsPacket q → bytes ≡ packet q → p ≡ q
whole_one bytes rest p q is e is_q f = packet_apart p q rest [] is is_q (sym e ∙ f ∙ sym (append-nil (packet q)))

-- no packet's spelling begins the bytes
pub bad_whole : (bytes : List ℕ) (left : ℕ) → IsBadBefore Packets bytes left → IsBadPacket bytes (length bytes - left)
bad_whole bytes left b =
    let at : b.at ≡ length bytes - left = let p = b.place in omega arith in
    subst (IsBadPacket bytes) at (record {
      none = λ s. b.bad.none bytes [] s (sym (append-nil bytes));
      reaches = b.bad.reaches;
      furthest = b.bad.furthest;
    })

-- Where a packet's spelling begins the bytes, and more follow, no spelling goes on.
pub goes_on : (bytes rest : List ℕ) (p : Packet) → IsPacket p → bytes ≡ packet p ++ rest → (n : ℕ) → Reaches Packets bytes n → n ≤ length (packet p)
goes_on bytes rest p is e n r = ⊎_elim
    (λ lt. far (n - length (packet p)) (omega arith))
    (λ le. le)
    (cases_lt (length (packet p)) n)
  where
    far : (k : ℕ) → n ≡ length (packet p) + k → n ≤ length (packet p)
    far k is_n =
        let q = r.whole in
        let front : take n bytes ≡ packet p ++ take k rest = ap (λ (i : ℕ). take i bytes) is_n ∙ ap (take (length (packet p) + k)) e ∙ take-append-add (packet p) rest k in
        let whole : packet q.0 ++ [] ≡ packet p ++ (take k rest ++ r.more) =
        append-nil (packet q.0) ∙ sym q.2 ∙ ap (λ (x : List ℕ). x ++ r.more) front ∙ append_assoc (packet p) (take k rest) r.more in
        let same : q.0 ≡ p = packet_apart q.0 p [] (take k rest ++ r.more) q.1 is whole in
        let long : length (packet q.0) ≡ length (packet p) = ap (λ (x : Packet). length (packet x)) same in
        let w = r.within in
        omega (arith, ap length q.2, length-append (take n bytes) r.more, length-take-le n bytes w)

pub bad_behind : (bytes rest : List ℕ) (p : Packet) → IsPacket p → bytes ≡ packet p ++ rest → 0 < length rest → IsBadPacket bytes (length bytes - length rest)
bad_behind bytes rest p is e more =
    let long : length bytes ≡ length (packet p) + length rest = ap length e ∙ length-append (packet p) rest in
    let at : length (packet p) ≡ length bytes - length rest = omega arith in
    subst (IsBadPacket bytes) at (record {
      none = λ s. none s long;
      reaches = record {
        within = omega arith;
        more = [];
        whole = (p, is, append-nil (take (length (packet p)) bytes) ∙ ap (take (length (packet p))) e ∙ take-append_seam (packet p) rest);
      };
      furthest = goes_on bytes rest p is e;
    })
  where
    none : Packets bytes → length bytes ≡ length (packet p) + length rest → ⊥
    none s long =
        let same : s.0 ≡ p = packet_apart s.0 p [] rest s.1 is (append-nil (packet s.0) ∙ sym s.2 ∙ e) in
        let short : length (packet s.0) ≡ length (packet p) = ap (λ (x : Packet). length (packet x)) same in
        omega (arith, ap length s.2)
