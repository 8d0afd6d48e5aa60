use Rattle.std.proofs.Common.{arith}
use Rattle.id_expiry.specs.Times.{of_id}
use Rattle.id_expiry.proofs.Tokens.{no_later}
use Rattle.id_expiry.proofs.timed.first_below.Goals as goal

pub returns-else-first-bound-clause-none : goal.returns-else-first-bound-clause-none
returns-else-first-bound-clause-none c = λ id has. let first = no_later c.in_ok-first.first.now id (c.in_ok-first.ensures.least (of_id id) has) in omega (arith, first)
