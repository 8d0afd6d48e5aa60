-- What is kept of a history, beside the list that contracts see.
use Rattle.std.specs.Prelude.{◌≡◌, ℕ, Bool, false, List, length, nat_le, Option, None, Some, IfSome}
use Rattle.std.specs.List.{list_any}
use Rattle.air_bus.specs.declared.entry.Entry.{Entry}
use Rattle.air_bus.specs.declared.entry.Entry.TheVariants.{Begin, End, Stop}

-- a node from this number on stops
abbrev pub is_stop_from : ℕ → Entry → Bool
is_stop_from first (Begin node input) = false
is_stop_from first (End node noted packets kept) = false
is_stop_from first (Stop node landed) = nat_le first node

-- the number, if there is one, is not below the first
abbrev pub reaches : ℕ → Option ℕ → Bool
reaches first None = false
reaches first (Some n) = nat_le first n

-- how many entries there are, the highest number of a node that stopped, and the record of the entries, if there is one
pub record IsKept (h : List Entry) (entries : ℕ) (highest : Option ℕ) (kept : Option (List Entry)) : Type 0 where
  pub counted : entries ≡ length h
  pub stops : (first : ℕ) → list_any (is_stop_from first) h ≡ reaches first highest
  pub recorded : IfSome kept (λ r. r ≡ h)
