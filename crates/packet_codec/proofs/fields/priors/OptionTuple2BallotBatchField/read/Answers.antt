use Rattle.std.proofs.Common.{arith}
use Rattle.packet_codec.proofs.PartLaws.{tag_stops, next_stops}
use Rattle.packet_codec.proofs.Tagged.{prior_sum}
use Rattle.packet_codec.proofs.fields.priors.OptionTuple2BallotBatchField.read.Goals as goal

pub returns-in_err-flag-clause-bad : goal.returns-in_err-flag-clause-bad
returns-in_err-flag-clause-bad c = tag_stops 0 1 _ _ _ c.args.bytes.now c.in_err-flag.field-0.0 c.from_residual.result prior_sum c.from_residual.ensures.1 c.in_err-flag.ensures.bad

pub returns-in_err-ballot-clause-bad : goal.returns-in_err-ballot-clause-bad
returns-in_err-ballot-clause-bad c = next_stops 0 1 _ _ _ 1 c.in_ok-flag.flag c.args.bytes.now c.in_ok-flag.rest.now c.in_err-ballot.field-0.0 c.from_residual-in_err-ballot.result prior_sum (omega arith) (omega (arith, c.in_ok-flag.ensures.high, c.if-flag-eq0.false)) c.in_ok-flag.ensures.found c.from_residual-in_err-ballot.ensures.1 c.in_err-ballot.ensures.bad
