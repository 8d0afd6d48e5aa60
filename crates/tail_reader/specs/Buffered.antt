-- The bytes of a log, and those read ahead.
use Rattle.std.specs.Prelude.{ℕ, ◌≡◌, List, length, take, drop}
use Rattle.log_records.specs.declared.check.TheConstants.{MAX_LOG}

-- the bytes from a place on; none behind the longest log is read
abbrev pub behind : List ℕ → ℕ → List ℕ
behind log place = drop place (take MAX_LOG log)

-- these bytes were read ahead from the place on
abbrev pub Buffers : List ℕ → ℕ → List ℕ → Type 0
Buffers log place ahead = take (length ahead) (behind log place) ≡ ahead
