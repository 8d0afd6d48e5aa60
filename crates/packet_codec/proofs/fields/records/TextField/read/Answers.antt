use Rattle.std.proofs.Common.{arith}
use Rattle.packet_codec.proofs.PartLaws.{tag_stops, next_stops}
use Rattle.packet_codec.proofs.Counts.{text_sum}
use Rattle.packet_codec.proofs.fields.records.TextField.read.Goals as goal

pub returns-in_err-len-clause-bad : goal.returns-in_err-len-clause-bad
returns-in_err-len-clause-bad c = tag_stops 0 _ _ _ _ c.args.bytes.now c.in_err-len.field-0.0 c.from_residual.result text_sum c.from_residual.ensures.1 c.in_err-len.ensures.bad

pub returns-in_err-spelled-clause-bad : goal.returns-in_err-spelled-clause-bad
returns-in_err-spelled-clause-bad c = next_stops 0 _ _ _ _ c.from.result c.in_ok-len.len c.args.bytes.now c.in_ok-len.rest.now c.in_err-spelled.field-0.0 c.from_residual-in_err-spelled.result text_sum (omega (arith, c.in_ok-len.ensures.high, c.from.ensures)) (omega (arith, c.from.ensures)) c.in_ok-len.ensures.found c.from_residual-in_err-spelled.ensures.1 c.in_err-spelled.ensures.bad
