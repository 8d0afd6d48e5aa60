-- What a turn begins with.
use Rattle.std.specs.Prelude.{Bool, true, false, Option, Some, None}
use Rattle.air_bus.specs.declared.entry.Input.{Input}
use Rattle.air_bus.specs.declared.entry.Input.TheVariants.{Packet, Tick, Own}
use Rattle.air_bus.specs.Copies.{Copy}

-- the input that a copy is
abbrev pub packet_input : Copy → Input
packet_input c = Packet c.from c.bytes

-- a packet goes first, then a tick, then what the node has to do itself
abbrev pub or_other : Option Input → Bool → Bool → Option Input
or_other (Some i) tick wants = Some i
or_other None true wants = Some Tick
or_other None false true = Some Own
or_other None false false = None
