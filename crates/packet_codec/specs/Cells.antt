-- Spellings of a fixed length, byte by byte.
use Rattle.std.specs.Prelude.{◌≡◌, ℕ, ◌<◌, ◌≤◌, List, length, slice_index}

-- n bytes, each as it must be at its place
pub record Cells (n : ℕ) (Fits : ℕ → ℕ → Type 0) (bytes : List ℕ) : Type 0 where
  pub len : length bytes ≡ n
  pub each : (k : ℕ) → k < n → Fits k (slice_index bytes k)

-- n bytes from low to high
abbrev pub Run : ℕ → ℕ → ℕ → List ℕ → Type 0
Run n low high = Cells n (λ k b. (low ≤ b) × (b ≤ high))

-- as many bytes as there are limits, each up to its limit
abbrev pub UpTo : List ℕ → List ℕ → Type 0
UpTo limits = Cells (length limits) (λ k b. b ≤ slice_index limits k)
