use Rattle.std.proofs.Common.{◌≡◌, ◌&&◌, drop, not}
use Rattle.batch_queue.proofs.Words.{values_of, contains, Token, same_token, has_token, without}
use Rattle.batch_queue.proofs.settled.forget.Given as goal

-- what is out, and what is left to take out
abbrev pub invariant-loop-number : goal.invariant-loop-number
invariant-loop-number l =
    record {
      order : without (drop l.number-index l.gone) l.in_order.entries ≡ without l.gone l.initial.in_order.entries;
      tokens : (t : Token) → (contains same_token l.tokens t && not (has_token (values_of (drop l.number-index l.gone)) t)) ≡ (contains same_token l.initial.tokens t && not (has_token (values_of l.gone) t));
    }
