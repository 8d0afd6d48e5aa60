-- What stands in a log from a place on.
use Rattle.std.specs.Prelude.{ℕ, ◌≡◌, ◌+◌, ◌<◌, ◌≤◌, List, ◌∷◌, ◌++◌, length}
use Rattle.list_words.specs.Bytes.{Lacks}
use Rattle.log_records.specs.declared.lines.TheConstants.{MAX_LINE}
use Rattle.log_records.specs.Log.{line_feed}
use Rattle.tail_reader.specs.Buffered.{behind}
use Rattle.tail_reader.specs.declared.tail.Next.{Next}
use Rattle.tail_reader.specs.declared.tail.Next.TheVariants.{Line, Long, End}

-- The line that begins at the place, whose bytes are handed out with it. A line that is too long is passed over, and
-- one that has no line feed yet is none.
abbrev pub IsNext : List ℕ → ℕ → Next → List ℕ → Type 0
IsNext log place (Line p e) line =
    (p ≡ place) × (e ≡ place + length line + 1) × (length line ≤ MAX_LINE) × Lacks line_feed line × ((rest : List ℕ) × (behind log place ≡ line ++ line_feed ∷ rest))
IsNext log place (Long p e) line =
    (p ≡ place) × ((long rest : List ℕ) × (behind log place ≡ long ++ line_feed ∷ rest) × Lacks line_feed long × (MAX_LINE < length long) × (e ≡ place + length long + 1))
IsNext log place (End p) line = (p ≡ place) × Lacks line_feed (behind log place)

-- where the next call goes on
abbrev pub end_of : Next → ℕ
end_of (Line p e) = e
end_of (Long p e) = e
end_of (End p) = p
