use Rattle.packet_codec.proofs.PartLaws.{tag_stops}
use Rattle.packet_codec.proofs.PacketParts.{packet_sum}
use Rattle.packet_codec.proofs.decoding.read_packet.Goals as goal

pub returns-in_err-tag-clause-bad : goal.returns-in_err-tag-clause-bad
returns-in_err-tag-clause-bad c = tag_stops 0x11 9 _ _ _ c.args.bytes.now c.in_err-tag.field-0.0 c.from_residual.result packet_sum c.from_residual.ensures.1 c.in_err-tag.ensures.bad
