-- Work moves on: what stands still for so many intervals is done.
use Rattle.std.specs.Prelude.{◌≡◌, ◌⊎◌, ℕ, suc, ◌+◌, ◌<◌, ◌≤◌, Bool, true, false, not, ◌||◌, nat_lt, List, length, if◌then◌else◌, Option, Some, None}
use Rattle.progress_laws.specs.Terms.{Ballot, Entry, IsAtRest, IsTable, Place, ServerLive, Setting, ShardState, World, is_empty, shards, world_after}
use Rattle.ballot_core.specs.Majority.{Majority}
use Rattle.registry_state.specs.LookBack.{bound_of}
use Rattle.turn_defs.specs.Replica.{cell_at}
use Rattle.progress_laws.specs.Idle.{IsIdle, AreIdle}

-- how many of the first n replicas take part
abbrev pub live_among : (ℕ → Bool) → ℕ → ℕ
live_among dead ℕ.zero = 0
live_among dead (suc n) = (if dead n then 0 else 1) + live_among dead n

-- Where more than half of the replicas take part, more intervals in a row than these in which nothing is done are only
-- where everything was done before them.
abbrev pub WorkMovesOn : Setting → World → Type 0
WorkMovesOn g w =
    (dead : ℕ → Bool) → IsTable g.config.table → Majority g.config.replicas (λ r. dead r ≡ false) →
    (intervals : List (List Entry)) → AreIdle g dead w intervals → live_among dead g.config.replicas < length intervals → IsAtRest g w

-- so it is with more intervals than there are replicas
abbrev pub WorkMovesOnBy : Setting → World → Type 0
WorkMovesOnBy g w =
    (dead : ℕ → Bool) → IsTable g.config.table → Majority g.config.replicas (λ r. dead r ≡ false) →
    (intervals : List (List Entry)) → AreIdle g dead w intervals → g.config.replicas < length intervals → IsAtRest g w

-- ---- why: each such interval ends with a server held, by a promise that is older than the interval

-- inserts wait in the shard, or its bound is below the horizon
abbrev pub is_left : Setting → ShardState → Bool
is_left g st = not (is_empty st.queue) || nat_lt (bound_of st.learned) g.config.horizon

-- the shard's next slot
abbrev pub next_of : ℕ → ShardState → Place
next_of k st = record { shard = k; slot = length st.learned }

-- The site's server is held at the place, which is its next, with no attempt there and something left to do. The next round
-- that it draws is n.
pub record IsHeldAt (g : Setting) (w : World) (s : ℕ) (at : Place) (n : ℕ) : Type 0 where
  pub site : s < 2
  pub live : ServerLive
  pub up : (w.servers s).live ≡ Some live
  pub shard : at.shard < shards g
  pub next : next_of at.shard (live.shards at.shard) ≡ at
  pub left : is_left g (live.shards at.shard) ≡ true
  pub held : (live.shards at.shard).held ≡ true
  pub free : (live.shards at.shard).proposal ≡ None
  pub round : suc live.round ≡ n

-- what a replica has promised at a place
abbrev pub promise_at : World → ℕ → Place → Option Ballot
promise_at w r at = (cell_at (w.replicas r).kept at).promised

-- The promise of a replica that takes part, of a round from n on and below m, was made before w and stands at v. Whoever
-- else promised in between promised a round below m.
pub record Refusal (g : Setting) (dead : ℕ → Bool) (w v : World) (at : Place) (n m : ℕ) : Type 0 where
  pub replica : ℕ
  pub member : replica < g.config.replicas
  pub live : dead replica ≡ false
  pub ballot : Ballot
  pub was : promise_at w replica at ≡ Some ballot
  pub is : promise_at v replica at ≡ Some ballot
  pub higher : n ≤ ballot.round
  pub reached : ballot.round < m
  pub others : (r : ℕ) → r < g.config.replicas → dead r ≡ false → (promise_at v r at ≡ promise_at w r at) ⊎ ((b : Ballot) → promise_at v r at ≡ Some b → b.round < m)

abbrev pub IsRefusedFrom : (g : Setting) (dead : ℕ → Bool) (w v : World) (at : Place) (n : ℕ) → Type 0
IsRefusedFrom g dead w v at n = (s : ℕ) × (m : ℕ) × IsHeldAt g v s at m × Refusal g dead w v at n m

-- Where nothing is done in an interval that doesn't begin at rest, a server ends held: a replica refused the attempts at its
-- next slot, by a promise older than the interval.
abbrev pub RestOrRefused : Setting → World → Type 0
RestOrRefused g w =
    (dead : ℕ → Bool) (es : List Entry) → IsTable g.config.table → Majority g.config.replicas (λ r. dead r ≡ false) → IsIdle g dead w es →
    IsAtRest g w ⊎ ((at : Place) × IsRefusedFrom g dead w (world_after g w es) at 0)

-- So it is in each shard in which a server has something left at the end.
abbrev pub LeftIsRefused : Setting → World → Type 0
LeftIsRefused g w =
    (dead : ℕ → Bool) (es : List Entry) → IsTable g.config.table → Majority g.config.replicas (λ r. dead r ≡ false) → IsIdle g dead w es →
    (s : ℕ) → s < 2 → (l : ServerLive) → ((world_after g w es).servers s).live ≡ Some l → (k : ℕ) → k < shards g → is_left g (l.shards k) ≡ true →
    IsRefusedFrom g dead w (world_after g w es) (next_of k (l.shards k)) 0

-- Where a server is held when such an interval begins, one ends held at the same slot, by a promise not below the round that
-- the first drew in it: so no promise does it twice.
abbrev pub HeldIsRefused : Setting → World → Type 0
HeldIsRefused g w =
    (dead : ℕ → Bool) (es : List Entry) → IsTable g.config.table → Majority g.config.replicas (λ r. dead r ≡ false) → IsIdle g dead w es →
    (s n : ℕ) (at : Place) → IsHeldAt g w s at n → IsRefusedFrom g dead w (world_after g w es) at n
