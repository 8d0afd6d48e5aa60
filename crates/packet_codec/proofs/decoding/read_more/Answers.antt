use Rattle.std.proofs.Common.{arith}
use Rattle.packet_codec.proofs.PartLaws.{after_stops}
use Rattle.packet_codec.proofs.PacketParts.{packet_sum}
use Rattle.packet_codec.proofs.decoding.read_more.Goals as goal

pub returns-in_err-place-in-22-clause-bad : goal.returns-in_err-place-in-22-clause-bad
returns-in_err-place-in-22-clause-bad c = after_stops 0x11 9 _ _ _ 5 c.args.tag c.args.bytes.now c.in_err-place-in-22.field-0.0 c.from_residual.result packet_sum (omega arith) c.in-22.is c.from_residual.ensures.1 c.in_err-place-in-22.ensures.bad

pub returns-in_err-place-in-23-clause-bad : goal.returns-in_err-place-in-23-clause-bad
returns-in_err-place-in-23-clause-bad c = after_stops 0x11 9 _ _ _ 6 c.args.tag c.args.bytes.now c.in_err-place-in-23.field-0.0 c.from_residual-in_err-place-in-23.result packet_sum (omega arith) c.in-23.is c.from_residual-in_err-place-in-23.ensures.1 c.in_err-place-in-23.ensures.bad

pub returns-in_err-place-in_default-clause-bad : goal.returns-in_err-place-in_default-clause-bad
returns-in_err-place-in_default-clause-bad c = after_stops 0x11 9 _ _ _ 7 c.args.tag c.args.bytes.now c.in_err-place-in_default.field-0.0 c.from_residual-in_err-place-in_default.result packet_sum (omega arith) (omega (arith, c.requires.low, c.requires.high, c.in_default)) c.from_residual-in_err-place-in_default.ensures.1 c.in_err-place-in_default.ensures.bad
