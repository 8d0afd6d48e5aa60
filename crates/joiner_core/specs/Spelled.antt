-- What has spellings: what a turn takes, notes and sends.
use Rattle.std.specs.Prelude.{◌≤◌, List, IfSome}
use Rattle.joiner_core.specs.Terms.{AllByRecursion, LAST_EPOCH, IsQuery, IsClick, IsNumber, Packet, Node, IsPacket, IsPair}
use Rattle.joiner_core.specs.declared.input.Looked.{Looked}
use Rattle.joiner_core.specs.declared.input.Looked.TheVariants.{Found, Lines}
use Rattle.joiner_core.specs.declared.input.JoinerInput.{JoinerInput}
use Rattle.joiner_core.specs.declared.input.JoinerInput.TheVariants as input
use Rattle.joiner_core.specs.declared.turn.JoinerNote.{JoinerNote}
use Rattle.joiner_core.specs.declared.turn.JoinerNote.TheVariants as notes
use Rattle.joiner_core.specs.Standing.{Turn}

abbrev pub IsTold : Looked → Type 0
IsTold (Found q) = IsQuery q
IsTold (Lines n) = IsNumber n

-- what the input carries has spellings
abbrev pub IsTaken : JoinerInput → Type 0
IsTaken (input.Join p c looked) = IsNumber p × IsClick c × IsTold looked
IsTaken (input.Packet from p) = IsPacket p
IsTaken _ = Unit {0}

-- the note has a record: an epoch that a disk may keep, or a pair
abbrev pub IsWritten : JoinerNote → Type 0
IsWritten (notes.Epoch e) = e ≤ LAST_EPOCH
IsWritten (notes.Pair p) = IsPair p

abbrev pub ArePackets : List (Node × Packet) → Type 0
ArePackets ps = AllByRecursion (λ p. IsPacket p.1) ps

-- the note and the packets have spellings
pub record IsSpelled (t : Turn) : Type 0 where
  pub note : IfSome t.note IsWritten
  pub packets : ArePackets t.packets.items
