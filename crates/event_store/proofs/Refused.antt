-- Lines that are no record's.
use Rattle.std.proofs.Common.{◌≡◌, ℕ, ◌+◌, ◌<◌, List, ◌∷◌, ◌++◌, length, ap, arith}
use Rattle.std.specs.Prelude.{None}
use Rattle.event_store.proofs.Words.{MAX_LINE, length-append, Lacks, spell, length-spell-le, space, line_feed, behind, ReadsAs, ReadsNext}

-- a line that is too long is no record's
pub too_long : (line : List ℕ) → MAX_LINE < length line → ReadsAs line None
too_long line long q h e = omega (arith, ap length e, length-append (spell q.id) (space ∷ q.text), length-spell-le q.id h.id, h.text.len)

pub long_line : (log : List ℕ) (place p e : ℕ) → (p ≡ place) × ((long rest : List ℕ) × (behind log place ≡ long ++ line_feed ∷ rest) × Lacks line_feed long × (MAX_LINE < length long) × (e ≡ place + length long + 1)) → ReadsNext log place e None
long_line log place p e told = let l = told.1 in (l.0, l.1, l.2, l.3, l.5, too_long l.0 l.4)
