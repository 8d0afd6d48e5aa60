-- Lemmas on the lines of a log, which follow one another.
use Rattle.std.proofs.Common.{◌≡◌, ◌⊎◌, ℕ, ◌<◌, ◌≤◌, List, [], ◌∷◌, Some, arith}
use Rattle.log_records.proofs.Words.{eq-eqb, ne_eqb}
use Rattle.list_words.specs.Lists.{Mem}
use Rattle.log_records.specs.Lines.{ClickLine, at, end_from, Follow}
use Rattle.list_words.proofs.Lists.{none_some}

pub at_mem : (ls : List ClickLine) (p : ℕ) (l : ClickLine) → at ls p ≡ Some l → Mem l ls × (l.place ≡ p)
at_mem [] p l e = none_some l e
at_mem (m ∷ ls) p l e = grind (arith, at_mem ls p l)

pub places_from : (ls : List ClickLine) (p : ℕ) (l : ClickLine) → Follow p ls → Mem l ls → p ≤ l.place
places_from [] p l f m = absurd m
places_from (x ∷ ls) p l f h = grind (arith, places_from ls x.end_ l f.2)

pub at_own : (ls : List ClickLine) (p : ℕ) (l : ClickLine) → Follow p ls → Mem l ls → at ls l.place ≡ Some l
at_own [] p l f m = absurd m
at_own (x ∷ ls) p l f h = grind (arith, eq-eqb, places_from, ne_eqb, at_own ls x.end_ l f.2)

-- a line that begins before the end of another begins before that one, or is it
pub before_end : (ls : List ClickLine) (p : ℕ) (l m : ClickLine) → Follow p ls → Mem l ls → Mem m ls → m.place < l.end_ → (m.place < l.place) ⊎ (m ≡ l)
before_end [] p l m f a b h = absurd a
before_end (x ∷ ls) p l m f k e h = grind (arith, places_from, before_end ls x.end_ l m f.2)

-- each line begins before the end of the last
pub end_after : (ls : List ClickLine) (p : ℕ) → Follow p ls → p ≤ end_from p ls
end_after [] p f = omega arith
end_after (x ∷ ls) p f = let h = end_after ls x.end_ f.2 in let q = f.1 in omega arith

pub within_end : (ls : List ClickLine) (p : ℕ) (l : ClickLine) → Follow p ls → Mem l ls → l.place < end_from p ls
within_end [] p l f m = absurd m
within_end (x ∷ ls) p l f h = grind (arith, end_after, within_end ls x.end_ l f.2)
