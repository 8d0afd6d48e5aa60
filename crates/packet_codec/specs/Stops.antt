-- Where reading stopped.
use Rattle.std.specs.Prelude.{◌≡◌, ℕ, ◌+◌, List, length}
use Rattle.packet_codec.specs.declared.fields.stop.Stop.{Stop}
use Rattle.packet_codec.specs.declared.fields.stop.Stop.TheVariants.{Bad, Memory}
use Rattle.packet_codec.specs.declared.fields.stop.FieldFault.{FieldFault}
use Rattle.packet_codec.specs.declared.fields.stop.FieldFault.TheVariants as fault
use Rattle.packet_codec.specs.Bad.{IsBadAt}

-- the first bad byte has so many behind it, itself counted
pub record IsBadBefore (IsSpelling : List ℕ → Type 0) (rest : List ℕ) (left : ℕ) : Type 0 where
  pub at : ℕ
  pub place : at + left ≡ length rest
  pub bad : IsBadAt IsSpelling rest at

-- so, but for want of memory
abbrev pub Stops : (List ℕ → Type 0) → List ℕ → Stop → Type 0
Stops IsSpelling rest (Bad left) = IsBadBefore IsSpelling rest left
Stops IsSpelling rest Memory = Unit {0}

-- the fault tells the first bad byte, but for want of memory
abbrev pub IsFault : (List ℕ → Type 0) → List ℕ → FieldFault → Type 0
IsFault IsSpelling rest (fault.BadField at) = IsBadAt IsSpelling rest at
IsFault IsSpelling rest fault.Memory = Unit {0}

-- the fault is want of memory
abbrev pub IsMemory : FieldFault → Type 0
IsMemory (fault.BadField at) = ⊥
IsMemory fault.Memory = Unit {0}
