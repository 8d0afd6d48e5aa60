-- The window as the core holds it.
use Rattle.std.specs.Prelude.{◌≡◌, ℕ, ◌+◌, ◌<◌, ◌≤◌, ◌==◌, false, List, [], ◌∷◌, length, map, slice_index_or, Result, Ok, Err, ⊤}
use Rattle.dispatch_core.specs.declared.line.FreshLine.{FreshLine}
use Rattle.dispatch_core.specs.Terms.{Fresh}

-- the entry that a line is
abbrev pub fresh_of : FreshLine → Fresh
fresh_of f = record { position = f.position; end_ = f.end; click = f.click; done = f.done }

-- the positions are at least a, and rise
abbrev pub IsRisingFrom : ℕ → List Fresh → Type 0
IsRisingFrom a [] = ⊤
IsRisingFrom a (f ∷ fs) = (a ≤ f.position) × IsRisingFrom (f.position + 1) fs

-- the positions rise
abbrev pub IsRising : List Fresh → Type 0
IsRising fs = IsRisingFrom 0 fs

-- each position lies before this place
abbrev pub AreBefore : List Fresh → ℕ → Type 0
AreBefore [] p = ⊤
AreBefore (f ∷ fs) p = (f.position < p) × AreBefore fs p

-- none has this position
abbrev pub Lacks : List FreshLine → ℕ → Type 0
Lacks [] p = ⊤
Lacks (f ∷ fs) p = ((f.position == p) ≡ false) × Lacks fs p

-- what a search for a position answers: where a line with it stands, or, where the positions rise, that none has it
abbrev pub IsFound : List FreshLine → ℕ → Result ℕ ℕ → Type 0
IsFound fs p (Ok i) = (i < length fs) × ((d : FreshLine) → (slice_index_or fs i d).position ≡ p)
IsFound fs p (Err i) = IsRising (map fresh_of fs) → Lacks fs p
