use Rattle.std.proofs.Common.{arith}
use Rattle.event_id.proofs.Numerals.{number_zero}
use Rattle.event_id.proofs.text.take_number.Goals as goal

pub returns-then-first-eq0-clause-only : goal.returns-then-first-eq0-clause-only
returns-then-first-eq0-clause-only c n rest le ends e = number_zero c.args.text.now c.in_ok-first.rest.now rest c.in_ok-first.first n c.if-first-eq0.true (omega arith) c.in_ok-first.ensures.found.1 e
