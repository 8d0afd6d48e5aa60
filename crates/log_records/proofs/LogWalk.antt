-- The check of a log, line by line.
use Rattle.std.proofs.Common.{◌≡◌, ◌⊎◌, inl, inr, ℕ, ◌+◌, ◌-◌, ◌<◌, ◌≤◌, List, [], ◌∷◌, ◌++◌, length, map, refl, ap, ◌∙◌, arith}
use Rattle.log_records.proofs.Words.{AfterWhy, AllByRecursion, AreRecords, EventId, IsLog, Keeps, Lacks, OrMemory, Refuses, Seen, Why, length-append, line_feed, whole}
use Rattle.log_records.specs.declared.why.Why.TheVariants as why
use Rattle.log_records.specs.declared.check.BadLine.{BadLine}
use Rattle.log_records.specs.declared.check.TheConstants.{MAX_LOG}
use Rattle.log_records.proofs.FirstLines.{keeps_one}

module _ {R : Type 0} (line_of : R → List ℕ) (IsRecord : R → Type 0) (id_of : R → EventId) (LineWhy : List ℕ → Why → Type 0) where
  -- the lines before the rest are these records, and the map has them
  pub record SoFar (log rest : List ℕ) (seen : Seen) (rs : List R) : Type 0 where
    pub bytes : log ≡ whole (map line_of rs) ++ rest
    pub fits : length (whole (map line_of rs)) ≤ MAX_LOG
    pub each : AllByRecursion IsRecord rs
    pub keeps : Keeps line_of id_of seen rs

  length-lines : (rs : List R) → length rs ≤ length (whole (map line_of rs))
  length-lines [] = omega arith
  length-lines (r ∷ rs) = omega (arith, length-lines rs, length-append (line_of r ++ line_feed ∷ []) (whole (map line_of rs)), length-append (line_of r) (line_feed ∷ []))

  -- what is told of the line behind n, which are m
  pub told_as : (log : List ℕ) (bad : BadLine) (n m : ℕ) (w : Why) → bad ≡ record { line = n + 1; why = w } → n ≡ m → (w ≡ why.Memory) ⊎ Refuses line_of IsRecord id_of LineWhy log (record { line = m + 1; why = w }) → (bad.why ≡ why.Memory) ⊎ Refuses line_of IsRecord id_of LineWhy log bad
  told_as log bad n m w is number told = grind arith

  module _ (log rest : List ℕ) (seen : Seen) (rs : List R) (so_far : SoFar log rest seen rs) where
    sound : AreRecords line_of IsRecord id_of rs
    sound = record { each = so_far.each; one = keeps_one line_of id_of seen rs so_far.keeps }

    pub number_fits : length rs ≤ MAX_LOG
    number_fits = omega (arith, length-lines rs, so_far.fits)

    pub ends : Lacks line_feed rest → length log ≤ MAX_LOG → IsLog line_of IsRecord id_of log rs
    ends none short = record { lines = (rest, so_far.bytes, none); records = sound; fits = short }

    pub too_big : Lacks line_feed rest → MAX_LOG < length log → Refuses line_of IsRecord id_of LineWhy log (record { line = length rs + 1; why = why.TooBig })
    too_big none long = record { earlier = rs; records = sound; fits = so_far.fits; number = refl; told = inr (rest, so_far.bytes, none, long, refl) }

    -- a line is next
    module _ (line after : List ℕ) (next : rest ≡ line ++ line_feed ∷ after) where
      pub bytes_next : log ≡ whole (map line_of rs) ++ (line ++ line_feed ∷ after)
      bytes_next = so_far.bytes ∙ ap (λ (x : List ℕ). whole (map line_of rs) ++ x) next

      pub end_is : length log ≡ length (whole (map line_of rs)) + length line + 1 + length after
      end_is = omega (arith, ap length bytes_next, length-append (whole (map line_of rs)) (line ++ line_feed ∷ after), length-append line (line_feed ∷ after))

      pub line_too_big : Lacks line_feed line → MAX_LOG < length log - length after → Refuses line_of IsRecord id_of LineWhy log (record { line = length rs + 1; why = why.TooBig })
      line_too_big none long = grind (arith, end_is)

      pub line_bad : (w : Why) → Lacks line_feed line → length log - length after ≤ MAX_LOG → OrMemory (AfterWhy line_of IsRecord id_of LineWhy rs line) w → (w ≡ why.Memory) ⊎ Refuses line_of IsRecord id_of LineWhy log (record { line = length rs + 1; why = w })
      line_bad w none short (inl memory) = inl memory
      line_bad w none short (inr told) =
          inr (record {
            earlier = rs;
            records = sound;
            fits = so_far.fits;
            number = refl;
            told = inl (line, after, bytes_next, none, inr (omega (arith, end_is), told));
          })
