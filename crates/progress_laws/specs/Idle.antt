-- Intervals in a row, of a run and within its limits, in which no turn is work.
use Rattle.std.specs.Prelude.{◌≡◌, ℕ, ◌-◌, ◌^◌, ◌<◌, Bool, true, List, ◌∷◌, length, ⊤, []}
use Rattle.progress_laws.specs.Terms.{Entry, IsInterval, IsJoiner, IsRun, IsWork, ServerLive, Setting, World, after, is_below_limit, shards, world_after}
use Rattle.turn_defs.specs.Joiner.{JoinerLive}
use Rattle.photon_model.specs.Facts.{IfUp}

-- no entry is work
abbrev pub NoWork : Setting → World → List Entry → Type 0
NoWork g w [] = ⊤
NoWork g w (e ∷ es) = (IsWork g w e → ⊥) × NoWork g (after g w e) es

-- rounds, slots and the numbers of tokens can still grow
pub record HasNumbers (g : Setting) (w : World) : Type 0 where
  pub rounds : (s : ℕ) → s < 2 → IfUp (λ (l : ServerLive). is_below_limit l.round ≡ true) (w.servers s).live
  pub slots : (s : ℕ) → s < 2 → IfUp (λ (l : ServerLive). (k : ℕ) → k < shards g → is_below_limit (length (l.shards k).learned) ≡ true) (w.servers s).live
  pub tokens : (j : ℕ) → IsJoiner g j → IfUp (λ (l : JoinerLive). l.number < 2 ^ 64 - 1) (w.joiners j).live

-- so it is at each front of the history
abbrev pub IsWithinLimits : Setting → World → List Entry → Type 0
IsWithinLimits g w [] = HasNumbers g w
IsWithinLimits g w (e ∷ es) = HasNumbers g w × IsWithinLimits g (after g w e) es

-- an interval in which nothing is done
pub record IsIdle (g : Setting) (dead : ℕ → Bool) (w : World) (es : List Entry) : Type 0 where
  pub run : IsRun g w es
  pub interval : IsInterval g dead w es
  pub limits : IsWithinLimits g w es
  pub no_work : NoWork g w es

-- intervals in a row, nothing being done in any
abbrev pub AreIdle : Setting → (ℕ → Bool) → World → List (List Entry) → Type 0
AreIdle g dead w [] = ⊤
AreIdle g dead w (es ∷ more) = IsIdle g dead w es × AreIdle g dead (world_after g w es) more
