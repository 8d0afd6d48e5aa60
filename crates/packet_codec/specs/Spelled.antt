-- The bytes that spell a packet.
use Rattle.std.specs.Prelude.{ℕ, List}
use Rattle.packet_codec.specs.Bad.{Spelled}
use Rattle.turn_defs.specs.Packets.{packet, IsPacket}

-- the spellings of packets
abbrev pub Packets : List ℕ → Type 0
Packets = Spelled packet IsPacket
