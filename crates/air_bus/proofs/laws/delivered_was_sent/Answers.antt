use Rattle.air_bus.proofs.Words.{Packet, Begin}
use Rattle.air_bus.proofs.Aired.{delivered}
use Rattle.air_bus.proofs.laws.delivered_was_sent.Goals as goal

pub returns : goal.returns
returns c = λ plan kinds h aired. record { each = λ before after node from bytes is. delivered plan kinds before node from bytes (aired.follows before after (Begin node (Packet from bytes)) is) }
