use Rattle.std.proofs.Common.{arith}
use Rattle.packet_codec.proofs.PartLaws.{tag_stops, next_stops}
use Rattle.packet_codec.proofs.Tagged.{answer_sum}
use Rattle.packet_codec.proofs.fields.answers.AnswerField.read.Goals as goal

pub returns-in_err-tag-clause-bad : goal.returns-in_err-tag-clause-bad
returns-in_err-tag-clause-bad c = tag_stops 0 2 _ _ _ c.args.bytes.now c.in_err-tag.field-0.0 c.from_residual.result answer_sum c.from_residual.ensures.1 c.in_err-tag.ensures.bad

pub returns-in_err-token-in-1-clause-bad : goal.returns-in_err-token-in-1-clause-bad
returns-in_err-token-in-1-clause-bad c = next_stops 0 2 _ _ _ 1 c.in_ok-tag.tag c.args.bytes.now c.in_ok-tag.rest.now c.in_err-token-in-1.field-0.0 c.from_residual-in_err-token-in-1.result answer_sum (omega arith) c.in-1.is c.in_ok-tag.ensures.found c.from_residual-in_err-token-in-1.ensures.1 c.in_err-token-in-1.ensures.bad

pub returns-in_err-bound-in_default-clause-bad : goal.returns-in_err-bound-in_default-clause-bad
returns-in_err-bound-in_default-clause-bad c = next_stops 0 2 _ _ _ 2 c.in_ok-tag.tag c.args.bytes.now c.in_ok-tag.rest.now c.in_err-bound-in_default.field-0.0 c.from_residual-in_err-bound-in_default.result answer_sum (omega arith) (omega (arith, c.in_ok-tag.ensures.high, c.in_default)) c.in_ok-tag.ensures.found c.from_residual-in_err-bound-in_default.ensures.1 c.in_err-bound-in_default.ensures.bad
