-- What is sent.
use Rattle.turn_defs.specs.declared.node.Node.{Node}
use Rattle.turn_defs.specs.declared.packet.Packet.{Packet}

pub record Sent : Type 0 where
  pub from : Node
  pub to : Node
  pub packet : Packet
