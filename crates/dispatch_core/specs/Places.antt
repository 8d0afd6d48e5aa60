-- The places of the click log that a dispatcher keeps and knows: of each it can read what stands there.
use Rattle.std.specs.Prelude.{◌≡◌, ◌⊎◌, ℕ, ◌≤◌, true, List, length, Some}
use Rattle.dispatch_core.specs.Terms.{ClickLine, DispatcherKept, DispatcherLive, Each, Fresh, HoldsLines, IsBoundary, MAX_LOG, Setting, at, has}

-- the log was checked, and its lines are the setting's clicks
pub record IsLogOf (log : List ℕ) (g : Setting) : Type 0 where
  pub lines : HoldsLines log g.clicks
  pub short : length log ≤ MAX_LOG

-- a line starts at p
abbrev pub StartsAt : Setting → ℕ → Type 0
StartsAt g p = (l : ClickLine) × (at g.clicks p ≡ Some l)

-- where a line starts or the last one ends, what stands there can be read
abbrev pub IsReadable : Setting → ℕ → Type 0
IsReadable g p = IsBoundary g.clicks p ⊎ StartsAt g p

-- the entry is a line of the log
abbrev pub IsEntry : Setting → Fresh → Type 0
IsEntry g f = at g.clicks f.position ≡ Some (record { place = f.position; end_ = f.end_; click = f.click })

-- the offset is the log's beginning or the end of a line, and what is pending are starts of lines
pub record AreKeptPlaces (g : Setting) (k : DispatcherKept) : Type 0 where
  pub offset : IsBoundary g.clicks k.offset
  pub pending : (p : ℕ) → has k.pending p ≡ true → StartsAt g p

-- so it is with what the node knows
pub record AreLivePlaces (g : Setting) (l : DispatcherLive) : Type 0 where
  pub place : IsBoundary g.clicks l.place
  pub fresh : Each (IsEntry g) l.fresh
  pub due : (p : ℕ) → has l.due p ≡ true → StartsAt g p
  pub trying : (p : ℕ) → has l.trying p ≡ true → StartsAt g p
