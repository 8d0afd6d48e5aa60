-- Floors of a stretch from those of its parts.
use Rattle.std.proofs.Common.{◌≡◌, inl, inr, ⊎_elim, ℕ, ◌+◌, ◌-◌, ◌<◌, ◌≤◌, List, ◌++◌, length, take, drop, get_or, refl, sym, subst, ◌∙◌, arith}
use Rattle.site_store.proofs.Words.{cases_lt, eq-eqb, get_or-take, get_or-drop, get_or_past, length-take, take-append-le, Nowhere, NoneAfter, Passes, is_byte, line_feed, NoneBetween, IsFloorFrom, IsFloorOf, IsBehindFeed}

-- ---- any numbers

-- nothing is found from here on
pub floor_stays : (P : ℕ → Type 0) (least a b floor : ℕ) → IsFloorFrom P least a floor → a ≤ b → NoneBetween P a b → IsFloorFrom P least b floor
floor_stays P least a b floor h le none = record { above = h.above; below = omega (arith, h.below); is = h.is; none = λ n low high is. ⊎_elim (λ past. none n past high is) (λ within. h.none n low within is) (cases_lt a n) }

-- nothing is between a floor of the upper part that was found and the end
pub floor_found : (P : ℕ → Type 0) (from to at floor : ℕ) → IsFloorFrom P from to floor → from < floor → to ≤ at → NoneBetween P to at → IsFloorOf P at floor
floor_found P from to at floor h found le none = grind arith

-- the upper part has none
pub floor_lower : (P : ℕ → Type 0) (from to at floor : ℕ) → IsFloorFrom P from to floor → floor ≤ from → NoneBetween P to at → NoneBetween P from at
floor_lower P from to at floor h le none = grind arith

pub floor_none : (P : ℕ → Type 0) (at : ℕ) → NoneBetween P 0 at → IsFloorOf P at 0
floor_none P at none = record { above = omega arith; below = omega arith; is = inl refl; none = none }

-- ---- line feeds

-- of bytes without one, and of those whose last one stands at a place
pub floor_of_none : (bytes : List ℕ) → Nowhere (Passes (is_byte line_feed) bytes) 0 (length bytes) → IsFloorOf (IsBehindFeed bytes) (length bytes) 0
floor_of_none bytes none = floor_none (IsBehindFeed bytes) (length bytes) (λ n low high (i, is, feed). none i (omega arith) (omega (arith, high, is)) (eq-eqb _ _ feed))

pub floor_of_last : (bytes : List ℕ) (k : ℕ) → NoneAfter (Passes (is_byte line_feed) bytes) 0 (length bytes) k → Passes (is_byte line_feed) bytes k → IsFloorOf (IsBehindFeed bytes) (length bytes) (k + 1)
floor_of_last bytes k last here = grind arith

-- behind the end of a log there are none
pub none_past : (log : List ℕ) (at to : ℕ) → length log ≤ at → NoneBetween (IsBehindFeed log) at to
none_past log at to past n low high h = grind (arith, get_or_past)

-- what was read stands in the log
pub read_stands : (log new rest : List ℕ) (at n : ℕ) → n ≤ length new → take n new ≡ take n (drop at log) → (length (take n (new ++ rest)) ≡ n) × (take (length (take n (new ++ rest))) (drop at log) ≡ take n (new ++ rest))
read_stands log new rest at n fits same = grind (arith, take-append-le, length-take)

byte_there : (bytes log : List ℕ) (at i : ℕ) → take (length bytes) (drop at log) ≡ bytes → i < length bytes → get_or log (at + i) 0 ≡ get_or bytes i 0
byte_there bytes log at i stands lt = grind (arith, get_or-drop, get_or-take)

feed_there : (bytes log : List ℕ) (at p : ℕ) → take (length bytes) (drop at log) ≡ bytes → p ≤ length bytes → IsBehindFeed bytes p → IsBehindFeed log (at + p)
feed_there bytes log at p stands le (i, is, feed) = (at + i, omega arith, byte_there bytes log at i stands (omega arith) ∙ feed)

feed_here : (bytes log : List ℕ) (at q : ℕ) → take (length bytes) (drop at log) ≡ bytes → at < q → q ≤ at + length bytes → IsBehindFeed log q → IsBehindFeed bytes (q - at)
feed_here bytes log at q stands low high (i, is, feed) =
    let there : i ≡ at + (i - at) = omega arith in
    (i - at, omega arith, sym (byte_there bytes log at (i - at) stands (omega arith)) ∙ subst (λ j. get_or log j 0 ≡ line_feed) there feed)

-- the floor behind some bytes, where they have no line feed, and where they have one
module _ (bytes log : List ℕ) (least at floor : ℕ) (stands : take (length bytes) (drop at log) ≡ bytes) (h : IsFloorFrom (IsBehindFeed log) least at floor) where
  pub floor_kept : (behind : ℕ) → IsFloorOf (IsBehindFeed bytes) (length bytes) behind → behind ≡ 0 → IsFloorFrom (IsBehindFeed log) least (at + length bytes) floor
  floor_kept behind own zero =
      floor_stays (IsBehindFeed log) least at (at + length bytes) floor h (omega arith)
      (λ q low high is. own.none (q - at) (omega arith) (omega arith) (feed_here bytes log at q stands low high is))

  pub floor_risen : (behind : ℕ) → IsFloorOf (IsBehindFeed bytes) (length bytes) behind → 0 < behind → IsFloorFrom (IsBehindFeed log) least (at + length bytes) (at + behind)
  floor_risen behind own some =
      record {
        above = omega (arith, h.above, h.below);
        below = omega (arith, own.below);
        is = ⊎_elim (λ e. absurd (omega arith)) (λ p. inr (feed_there bytes log at behind stands own.below p)) own.is;
        none = λ q low high is. own.none (q - at) (omega arith) (omega arith) (feed_here bytes log at q stands (omega arith) high is);
      }
