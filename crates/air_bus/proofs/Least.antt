-- The first copy of least delay, where it is known.
use Rattle.std.proofs.Common.{◌≡◌, ℕ, ◌<◌, ◌≤◌, ◌==◌, cond, if◌then◌else◌, List, [], ◌∷◌, ◌++◌, map, Some, sym, ap, arith}
use Rattle.std.specs.Prelude.{nat_lt, find}
use Rattle.air_bus.proofs.Words.{cond_both, ltb-true, eq-eqb, Each, each_append, each_more, Copy, least_delay, least_of, take_out, next_copy, left_by, sooner}

pub least_keeps : (m d : ℕ) (cs : List Copy) → d ≤ m → Each (λ (c : Copy). d ≤ c.delay) cs → d ≤ least_delay m cs
least_keeps m d [] l e = l
least_keeps m d (c ∷ cs) l e = least_keeps (if nat_lt c.delay m then c.delay else m) d cs (cond_both (nat_lt c.delay m) c.delay m (λ v. d ≤ v) (λ _. e.0) (λ _. l)) e.1

pub least_low : (m : ℕ) (cs : List Copy) → least_delay m cs ≤ m
least_low m [] = omega arith
least_low m (c ∷ cs) =
    let low = least_low (if nat_lt c.delay m then c.delay else m) cs in
    let step : (if nat_lt c.delay m then c.delay else m) ≤ m = cond_both (nat_lt c.delay m) c.delay m (λ v. v ≤ m) (λ t. omega (arith, ltb-true c.delay m t)) (λ _. omega arith) in
    omega (arith, low, step)

pub least_reach : (m : ℕ) (before : List Copy) (c : Copy) (after : List Copy) → least_delay m (before ++ c ∷ after) ≤ c.delay
least_reach m [] c after = grind (arith, least_low)
least_reach m (b ∷ before) c after = least_reach (if nat_lt b.delay m then b.delay else m) before c after

pub least_is : (before : List Copy) (c : Copy) (after : List Copy) → Each (λ (b : Copy). c.delay < b.delay) before → Each (λ (b : Copy). c.delay ≤ b.delay) after
    → least_of (before ++ c ∷ after) ≡ c.delay
least_is [] c after e l = grind (arith, least_low, least_keeps)
least_is (b ∷ before) c after e l =
    let low = least_reach b.delay before c after in
    let here : c.delay ≤ c.delay = omega arith in
    let first : c.delay ≤ b.delay = omega (arith, e.0) in
    let all = each_append (λ (x : Copy). c.delay ≤ x.delay) before (c ∷ after) (each_more (λ (x : Copy). c.delay < x.delay) (λ (x : Copy). c.delay ≤ x.delay) before (λ x p. omega arith) e.1) (here, l) in
    let high = least_keeps b.delay c.delay (before ++ c ∷ after) first all in
    omega (arith, low, high)

found : (before : List Copy) (c : Copy) (after : List Copy) (d : ℕ) → d ≡ c.delay → Each (λ (b : Copy). c.delay < b.delay) before
    → find (λ (x : Copy). x.delay == d) (before ++ c ∷ after) ≡ Some c
found [] c after d is e = ap (λ b. cond b (Some c) (find (λ (x : Copy). x.delay == d) after)) (eq-eqb c.delay d (sym is))
found (b ∷ before) c after d is e = grind (arith, found before c after d is e.1)

out : (before : List Copy) (c : Copy) (after : List Copy) (d : ℕ) → d ≡ c.delay → Each (λ (b : Copy). c.delay < b.delay) before
    → take_out d (before ++ c ∷ after) ≡ before ++ after
out [] c after d is e = ap (λ b. cond b after (c ∷ take_out d after)) (eq-eqb c.delay d (sym is))
out (b ∷ before) c after d is e = grind (arith, out before c after d is e.1)

pub next_is : (before : List Copy) (c : Copy) (after : List Copy) → Each (λ (b : Copy). c.delay < b.delay) before → Each (λ (b : Copy). c.delay ≤ b.delay) after
    → next_copy (before ++ c ∷ after) ≡ Some c
next_is before c after e l = found before c after (least_of (before ++ c ∷ after)) (least_is before c after e l) e

pub left_is : (before : List Copy) (c : Copy) (after : List Copy) → Each (λ (b : Copy). c.delay < b.delay) before → Each (λ (b : Copy). c.delay ≤ b.delay) after
    → left_by (before ++ c ∷ after) ≡ map sooner (before ++ after)
left_is before c after e l = ap (map sooner) (out before c after (least_of (before ++ c ∷ after)) (least_is before c after e l) e)
