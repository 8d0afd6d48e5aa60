use Rattle.std.proofs.Common.{arith}
use Rattle.packet_codec.proofs.PartLaws.{after_stops}
use Rattle.packet_codec.proofs.PacketParts.{packet_sum}
use Rattle.packet_codec.proofs.decoding.read_fields.Goals as goal

pub returns-in_err-position-in-17-clause-bad : goal.returns-in_err-position-in-17-clause-bad
returns-in_err-position-in-17-clause-bad c = after_stops 0x11 9 _ _ _ 0 c.args.tag c.args.bytes.now c.in_err-position-in-17.field-0.0 c.from_residual.result packet_sum (omega arith) c.in-17.is c.from_residual.ensures.1 c.in_err-position-in-17.ensures.bad

pub returns-in_err-position-in-18-clause-bad : goal.returns-in_err-position-in-18-clause-bad
returns-in_err-position-in-18-clause-bad c = after_stops 0x11 9 _ _ _ 1 c.args.tag c.args.bytes.now c.in_err-position-in-18.field-0.0 c.from_residual-in_err-position-in-18.result packet_sum (omega arith) c.in-18.is c.from_residual-in_err-position-in-18.ensures.1 c.in_err-position-in-18.ensures.bad

pub returns-in_err-insert-in-19-clause-bad : goal.returns-in_err-insert-in-19-clause-bad
returns-in_err-insert-in-19-clause-bad c = after_stops 0x11 9 _ _ _ 2 c.args.tag c.args.bytes.now c.in_err-insert-in-19.field-0.0 c.from_residual-in_err-insert-in-19.result packet_sum (omega arith) c.in-19.is c.from_residual-in_err-insert-in-19.ensures.1 c.in_err-insert-in-19.ensures.bad

pub returns-in_err-insert-in-20-clause-bad : goal.returns-in_err-insert-in-20-clause-bad
returns-in_err-insert-in-20-clause-bad c = after_stops 0x11 9 _ _ _ 3 c.args.tag c.args.bytes.now c.in_err-insert-in-20.field-0.0 c.from_residual-in_err-insert-in-20.result packet_sum (omega arith) c.in-20.is c.from_residual-in_err-insert-in-20.ensures.1 c.in_err-insert-in-20.ensures.bad

pub returns-in_err-place-in-21-clause-bad : goal.returns-in_err-place-in-21-clause-bad
returns-in_err-place-in-21-clause-bad c = after_stops 0x11 9 _ _ _ 4 c.args.tag c.args.bytes.now c.in_err-place-in-21.field-0.0 c.from_residual-in_err-place-in-21.result packet_sum (omega arith) c.in-21.is c.from_residual-in_err-place-in-21.ensures.1 c.in_err-place-in-21.ensures.bad

pub returns-in_err-place-in-25-clause-bad : goal.returns-in_err-place-in-25-clause-bad
returns-in_err-place-in-25-clause-bad c = after_stops 0x11 9 _ _ _ 8 c.args.tag c.args.bytes.now c.in_err-place-in-25.field-0.0 c.from_residual-in_err-place-in-25.result packet_sum (omega arith) c.in-25.is c.from_residual-in_err-place-in-25.ensures.1 c.in_err-place-in-25.ensures.bad

pub returns-in_err-place-in-26-clause-bad : goal.returns-in_err-place-in-26-clause-bad
returns-in_err-place-in-26-clause-bad c = after_stops 0x11 9 _ _ _ 9 c.args.tag c.args.bytes.now c.in_err-place-in-26.field-0.0 c.from_residual-in_err-place-in-26.result packet_sum (omega arith) c.in-26.is c.from_residual-in_err-place-in-26.ensures.1 c.in_err-place-in-26.ensures.bad
