use Rattle.std.proofs.Common.{arith}
use Rattle.packet_codec.proofs.PartLaws.{tag_stops, next_stops}
use Rattle.packet_codec.proofs.Tagged.{outcome_sum}
use Rattle.packet_codec.proofs.outcomes.OutcomeField.read.Goals as goal

pub returns-in_err-tag-clause-bad : goal.returns-in_err-tag-clause-bad
returns-in_err-tag-clause-bad c = tag_stops 0 4 _ _ _ c.args.bytes.now c.in_err-tag.field-0.0 c.from_residual.result outcome_sum c.from_residual.ensures.1 c.in_err-tag.ensures.bad

pub returns-in_err-token-in-1-clause-bad : goal.returns-in_err-token-in-1-clause-bad
returns-in_err-token-in-1-clause-bad c = next_stops 0 4 _ _ _ 1 c.in_ok-tag.tag c.args.bytes.now c.in_ok-tag.rest.now c.in_err-token-in-1.field-0.0 c.from_residual-in_err-token-in-1.result outcome_sum (omega arith) c.in-1.is c.in_ok-tag.ensures.found c.from_residual-in_err-token-in-1.ensures.1 c.in_err-token-in-1.ensures.bad

pub returns-in_err-bound-in-2-clause-bad : goal.returns-in_err-bound-in-2-clause-bad
returns-in_err-bound-in-2-clause-bad c = next_stops 0 4 _ _ _ 2 c.in_ok-tag.tag c.args.bytes.now c.in_ok-tag.rest.now c.in_err-bound-in-2.field-0.0 c.from_residual-in_err-bound-in-2.result outcome_sum (omega arith) c.in-2.is c.in_ok-tag.ensures.found c.from_residual-in_err-bound-in-2.ensures.1 c.in_err-bound-in-2.ensures.bad

pub returns-in_err-lines-in-3-clause-bad : goal.returns-in_err-lines-in-3-clause-bad
returns-in_err-lines-in-3-clause-bad c = next_stops 0 4 _ _ _ 3 c.in_ok-tag.tag c.args.bytes.now c.in_ok-tag.rest.now c.in_err-lines-in-3.field-0.0 c.from_residual-in_err-lines-in-3.result outcome_sum (omega arith) c.in-3.is c.in_ok-tag.ensures.found c.from_residual-in_err-lines-in-3.ensures.1 c.in_err-lines-in-3.ensures.bad
