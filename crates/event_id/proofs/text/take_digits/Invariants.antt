use Rattle.std.proofs.Common.{◌≡◌, ◌<◌, ◌^◌, ◌++◌, length, decimal}
use Rattle.event_id.proofs.text.take_digits.Given as goal

-- what was taken so far spells the number
abbrev pub invariant-loop-digit : goal.invariant-loop-digit
invariant-loop-digit l = record { some : 0 < l.number; fits : l.number < 2 ^ 64; taken : decimal l.front ++ l.text ≡ decimal l.number ++ l.rest }

abbrev pub decreases-loop-digit : goal.decreases-loop-digit
decreases-loop-digit l = length l.rest
