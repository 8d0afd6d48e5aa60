use Rattle.std.proofs.Common.{[], length, decimal, sym, ap, ◌∙◌, arith}
use Rattle.std.proofs.lemmas.List.{append-nil}
use Rattle.event_id.proofs.text.last_number.Goals as goal

pub returns-in_err-number-clause-only : goal.returns-in_err-number-clause-only
returns-in_err-number-clause-only c n le e = absurd (c.in_err-number.ensures.only n [] le tt (e ∙ sym (append-nil (decimal n))))

pub returns-in_default-clause-only : goal.returns-in_default-clause-only
returns-in_default-clause-only c n le e =
    let read = c.in_ok-number.ensures.only n [] le tt (e ∙ sym (append-nil (decimal n))) in
    absurd (omega (arith, c.in_default.len_at_least, ap length read.1))
