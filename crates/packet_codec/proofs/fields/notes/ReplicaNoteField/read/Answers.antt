use Rattle.std.proofs.Common.{arith}
use Rattle.packet_codec.proofs.PartLaws.{tag_stops, next_stops}
use Rattle.packet_codec.proofs.NoteParts.{note_sum}
use Rattle.packet_codec.proofs.fields.notes.ReplicaNoteField.read.Goals as goal

pub returns-in_err-tag-clause-bad : goal.returns-in_err-tag-clause-bad
returns-in_err-tag-clause-bad c = tag_stops 7 1 _ _ _ c.args.bytes.now c.in_err-tag.field-0.0 c.from_residual.result note_sum c.from_residual.ensures.1 c.in_err-tag.ensures.bad

pub returns-in_err-shard-clause-bad : goal.returns-in_err-shard-clause-bad
returns-in_err-shard-clause-bad c = next_stops 7 1 _ _ _ 0 c.in_ok-tag.tag c.args.bytes.now c.in_ok-tag.rest.now c.in_err-shard.field-0.0 c.from_residual-in_err-shard.result note_sum (omega arith) c.if-tag-eq-PROMISED.true c.in_ok-tag.ensures.found c.from_residual-in_err-shard.ensures.1 c.in_err-shard.ensures.bad

pub returns-in_err-shard-2-clause-bad : goal.returns-in_err-shard-2-clause-bad
returns-in_err-shard-2-clause-bad c = next_stops 7 1 _ _ _ 1 c.in_ok-tag.tag c.args.bytes.now c.in_ok-tag.rest.now c.in_err-shard-2.field-0.0 c.from_residual-in_err-shard-2.result note_sum (omega arith) (omega (arith, c.in_ok-tag.ensures.low, c.in_ok-tag.ensures.high, c.if-tag-eq-PROMISED.false)) c.in_ok-tag.ensures.found c.from_residual-in_err-shard-2.ensures.1 c.in_err-shard-2.ensures.bad
