-- Numbers of two bytes, of four, of eight below a limit, and of one byte up to a limit.
use Rattle.std.specs.Prelude.{ℕ, ◌^◌, ◌<◌, ◌≤◌, List, [], ◌∷◌}
use Rattle.std.specs.Int.{w16, w32, to_be_bytes}
use Rattle.packet_codec.specs.declared.fields.numbers.Small.{Small}
use Rattle.packet_codec.specs.declared.fields.numbers.Capped.{Capped}
use Rattle.turn_defs.specs.Spellings.{number}

abbrev pub half : ℕ → List ℕ
half n = to_be_bytes w16 n

abbrev pub IsHalf : ℕ → Type 0
IsHalf n = n < 2 ^ 16

abbrev pub word : ℕ → List ℕ
word n = to_be_bytes w32 n

abbrev pub IsWord : ℕ → Type 0
IsWord n = n < 2 ^ 32

abbrev pub small : Small → List ℕ
small x = number x.number

abbrev pub IsSmall : Small → Type 0
IsSmall x = x.number < 2 ^ 48

-- the greatest byte at each place
abbrev pub small_limits : List ℕ
small_limits = 0 ∷ 0 ∷ 255 ∷ 255 ∷ 255 ∷ 255 ∷ 255 ∷ 255 ∷ []

abbrev pub capped : (most : ℕ) → Capped most → List ℕ
capped most x = x.byte ∷ []

abbrev pub IsCapped : (most : ℕ) → Capped most → Type 0
IsCapped most x = x.byte ≤ most
