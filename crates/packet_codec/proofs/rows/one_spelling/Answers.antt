use Rattle.packet_codec.proofs.PacketParts.{packet_one}
use Rattle.packet_codec.proofs.rows.one_spelling.Goals as goal

pub returns-clause-one : goal.returns-clause-one
returns-clause-one c = packet_one
