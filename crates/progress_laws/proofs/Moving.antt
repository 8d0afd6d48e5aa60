-- Each refusal leaves fewer promises from a round on, so only so many idle intervals follow one another.
use Rattle.std.proofs.Common.{◌≡◌, ⊎_elim, ℕ, zero, suc, ◌+◌, ◌<◌, ◌≤◌, Bool, true, false, cond, nat_le, List, [], ◌∷◌, ◌++◌, length, Some, None, refl, sym, ap, ◌∙◌, subst, arith, Option, if◌then◌else◌}
use Rattle.progress_laws.proofs.Words.{cond_both, cond-true, cond-false, le-leb, lt-leb, run_append, after_append, Ballot, Majority, Place, Setting, World, Entry, Disks, world_after, IsRun, opening, IsTable, IsIdle, AreIdle, live_among, promise_at, IsRefusedFrom, Refusal, RestOrRefused, HeldIsRefused, WorkMovesOn, WorkMovesOnBy}

abbrev is_from : ℕ → Option Ballot → Bool
is_from n None = false
is_from n (Some b) = nat_le n b.round

-- how many of the first replicas that take part have promised a round from n on
abbrev one_from : (ℕ → Bool) → World → Place → ℕ → ℕ → ℕ
one_from dead w at n r = if dead r then 0 else if is_from n (promise_at w r at) then 1 else 0

-- a sum over the first numbers
abbrev sum_to : (ℕ → ℕ) → ℕ → ℕ
sum_to f zero = 0
sum_to f (suc n) = f n + sum_to f n

sums_le : (f g : ℕ → ℕ) (k : ℕ) → ((r : ℕ) → r < k → f r ≤ g r) → sum_to f k ≤ sum_to g k
sums_le f g zero h = omega arith
sums_le f g (suc k) h = let a = h k (omega arith) in let b = sums_le f g k (λ r lt. h r (omega (arith, lt))) in omega (arith, a, b)

sums_lt : (f g : ℕ → ℕ) (k r : ℕ) → r < k → f r < g r → ((q : ℕ) → q < k → f q ≤ g q) → sum_to f k < sum_to g k
sums_lt f g zero r lt less h = absurd (omega (arith, lt))
sums_lt f g (suc k) r lt less h = grind (arith, sums_le, sums_lt f g k r)

bits : (d a b : Bool) → (d ≡ false → a ≡ true → b ≡ true) → cond d 0 (cond a 1 0) ≤ cond d 0 (cond b 1 0)
bits d a b f = grind arith

module _ (g : Setting) (dead : ℕ → Bool) (w v : World) (at : Place) (n m : ℕ) (h : Refusal g dead w v at n m) where
  -- who counts at the end counted before
  counted : (r : ℕ) → r < g.config.replicas → dead r ≡ false → is_from m (promise_at v r at) ≡ true → is_from n (promise_at w r at) ≡ true
  counted r lt live e = grind arith

  -- the refuser counted, and doesn't any more
  counts_down : sum_to (one_from dead v at m) g.config.replicas < sum_to (one_from dead w at n) g.config.replicas
  counts_down =
      let gone : one_from dead v at m h.replica ≡ 0 = cond-false (dead h.replica) 0 _ h.live ∙ cond-false (is_from m (promise_at v h.replica at)) 1 0 (ap (is_from m) h.is ∙ lt-leb m h.ballot.round h.reached) in
      let there : one_from dead w at n h.replica ≡ 1 = cond-false (dead h.replica) 0 _ h.live ∙ cond-true (is_from n (promise_at w h.replica at)) 1 0 (ap (is_from n) h.was ∙ le-leb n h.ballot.round h.higher) in
      sums_lt (one_from dead v at m) (one_from dead w at n) g.config.replicas h.replica h.member (omega (arith, gone, there)) (λ r lt. bits (dead r) _ _ (counted r lt))

live_at_most : (dead : ℕ → Bool) (k : ℕ) → live_among dead k ≤ k
live_at_most dead zero = omega arith
live_at_most dead (suc k) = let more = live_at_most dead k in cond_both (dead k) 0 1 (λ x. x + live_among dead k ≤ suc k) (λ _. omega (arith, more)) (λ _. omega (arith, more))

-- ---- so many idle intervals

module _ (g : Setting) (d : Disks) (again : (h : List Entry) → IsRun g (opening d) h → HeldIsRefused g (world_after g (opening d) h)) where
  -- a run leads to the world
  abbrev IsReached : World → Type 0
  IsReached w = (h : List Entry) × IsRun g (opening d) h × (world_after g (opening d) h ≡ w)

  module _ (dead : ℕ → Bool) (table : IsTable g.config.table) (most : Majority g.config.replicas (λ r. dead r ≡ false)) where
    -- behind an interval with a refusal there are no more of them than there were promises from its round on
    chain : (more : List (List Entry)) (w : World) (es : List Entry) (at : Place) (n : ℕ) → IsReached w → IsIdle g dead w es → IsRefusedFrom g dead w (world_after g w es) at n → sum_to (one_from dead w at n) g.config.replicas ≤ length more → AreIdle g dead (world_after g w es) more → ⊥
    chain [] w es at n reached one (s, m, held, refusal) few idle = let less = counts_down g dead w (world_after g w es) at n m refusal in omega (arith, less, few)
    chain (next ∷ more) w es at n (h, run, is) one (s, m, held, refusal) few (idle, rest) =
        let v = world_after g w es in
        let less = counts_down g dead w v at n m refusal in
        let joined : world_after g (opening d) (h ++ es) ≡ v = after_append g h es (opening d) ∙ ap (λ u. world_after g u es) is in
        let runs = run_append g h es (opening d) run (subst (λ u. IsRun g u es) (sym is) one.run) in
        chain more v next at m (h ++ es, runs, joined) idle (subst (HeldIsRefused g) joined (again (h ++ es) runs) dead next table most idle s m at held) (omega (arith, less, few)) rest

  pub moves_on : (h : List Entry) → IsRun g (opening d) h → RestOrRefused g (world_after g (opening d) h) → WorkMovesOn g (world_after g (opening d) h)
  moves_on h run first dead table most [] idle long = absurd (omega (arith, long))
  moves_on h run first dead table most (es ∷ more) (idle, rest) long =
      ⊎_elim (λ done. done)
      (λ x. absurd (
      let w = world_after g (opening d) h in
      let few : sum_to (one_from dead w x.0 0) g.config.replicas ≤ live_among dead g.config.replicas = sums_le (one_from dead w x.0 0) _ g.config.replicas (λ r _. bits (dead r) (is_from 0 (promise_at w r x.0)) true (λ _ _. refl)) in
      chain dead table most more w es x.0 0 (h, run, refl) idle x.1 (omega (arith, few, long)) rest))
      (first dead es table most idle)

-- with more intervals than replicas there are more than live ones
pub moves_on_by : (g : Setting) (w : World) → WorkMovesOn g w → WorkMovesOnBy g w
moves_on_by g w moves dead table most intervals idle long = moves dead table most intervals idle (let few = live_at_most dead g.config.replicas in omega (arith, few, long))
