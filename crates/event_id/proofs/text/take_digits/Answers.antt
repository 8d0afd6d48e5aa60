use Rattle.std.proofs.Common.{◌≡◌, ◌≤◌, ◌+◌, ◌*◌, arith}
use Rattle.event_id.proofs.Numerals.{number_more, number_same, number_reaches}
use Rattle.event_id.proofs.text.take_digits.Goals as goal

pub returns-in_err-number-clause-only : goal.returns-in_err-number-clause-only
returns-in_err-number-clause-only c n rest le ends e =
    let most : c.loop-digit.number * 10 + c.in-Some.digit ≤ n = number_reaches _ _ _ rest _ _ _ c.loop-digit.invariant.fits (omega arith) c.in-Some.ensures.found.0 ends c.loop-digit.invariant.taken c.in-Some.ensures.found.1 e in
    absurd (c.in_err-number.ensures (omega arith))

pub loop-digit-preserved : goal.loop-digit-preserved
loop-digit-preserved c =
    let is : c.in_ok-number.number ≡ c.loop-digit.number * 10 + c.in-Some.digit = omega (arith, c.in_ok-number.ensures) in
    record {
      some = omega arith;
      fits = omega (arith, c.in_ok-number.ensures);
      taken = rw is (number_more _ _ _ c.loop-digit.number c.in-Some.digit c.loop-digit.invariant.some c.in-Some.ensures.found.0 (omega (arith, c.in_ok-number.ensures)) c.loop-digit.invariant.taken c.in-Some.ensures.found.1);
    }

pub returns-then-number-limit-clause-only : goal.returns-then-number-limit-clause-only
returns-then-number-limit-clause-only c n rest le ends e =
    number_same _ _ rest c.loop-digit.number n c.loop-digit.invariant.fits (omega arith) c.in_default.ensures.none ends c.loop-digit.invariant.taken e

pub returns-else-number-limit-clause-only : goal.returns-else-number-limit-clause-only
returns-else-number-limit-clause-only c n rest le ends e =
    let same : c.loop-digit.number ≡ n = (number_same _ _ rest c.loop-digit.number n c.loop-digit.invariant.fits (omega arith) c.in_default.ensures.none ends c.loop-digit.invariant.taken e).0 in
    omega arith
