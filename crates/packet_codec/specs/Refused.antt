-- Where bytes stop being the front of a packet's spelling.
use Rattle.std.specs.Prelude.{◌≡◌, ℕ, ◌≤◌, List}
use Rattle.packet_codec.specs.Bad.{Reaches}
use Rattle.packet_codec.specs.Spelled.{Packets}
use Rattle.packet_codec.specs.declared.fault.DecodeFault.{DecodeFault}
use Rattle.packet_codec.specs.declared.fault.DecodeFault.TheVariants.{BadPacket, Memory}

-- the bytes spell no packet, and `at` is the length of the longest front of them that begins a packet's spelling
pub record IsBadPacket (bytes : List ℕ) (at : ℕ) : Type 0 where
  pub none : Packets bytes → ⊥
  pub reaches : Reaches Packets bytes at
  pub furthest : (n : ℕ) → Reaches Packets bytes n → n ≤ at

-- the fault tells that length, but for want of memory
abbrev pub IsFault : List ℕ → DecodeFault → Type 0
IsFault bytes (BadPacket at) = IsBadPacket bytes at
IsFault bytes Memory = Unit {0}

-- the fault tells this length, but for want of memory
abbrev pub Tells : ℕ → DecodeFault → Type 0
Tells at (BadPacket told) = told ≡ at
Tells at Memory = Unit {0}

-- the fault is want of memory
abbrev pub IsMemory : DecodeFault → Type 0
IsMemory (BadPacket at) = ⊥
IsMemory Memory = Unit {0}
