use Rattle.std.proofs.Common.{sym, ◌∙◌}
use Rattle.list_words.proofs.Splits.{first_is, cut_there, found_at, parts_at, joined_at, no_byte}
use Rattle.list_words.proofs.split.split_once.Goals as goal

pub returns-in_err-at-clause-only : goal.returns-in_err-at-clause-only
returns-in_err-at-clause-only c front rest lacks e =
    let found = found_at c.args.byte c.args.text.now front rest lacks e in
    let was = c.in_err-at.was in
    absurd (cc (first_is _ _ _ c.memchr.ensures))

pub returns-in_err-at-clause-none : goal.returns-in_err-at-clause-none
returns-in_err-at-clause-none c = rw c.from_residual.ensures (no_byte c.args.byte c.args.text.now (sym (first_is _ _ _ c.memchr.ensures) ∙ c.in_err-at.was))

pub returns-clause-found : goal.returns-clause-found
returns-clause-found c = joined_at c.args.byte c.args.text.now c.in_ok-at.at (sym (first_is _ _ _ c.memchr.ensures) ∙ c.in_ok-at.was)

pub returns-clause-only : goal.returns-clause-only
returns-clause-only c front rest lacks e =
    let found = found_at c.args.byte c.args.text.now front rest lacks e in
    let was = c.in_ok-at.was in
    parts_at c.args.byte c.args.text.now front rest c.in_ok-at.at e (cc (first_is _ _ _ c.memchr.ensures))

pub returns-clause-parts : goal.returns-clause-parts
returns-clause-parts c = cut_there _ _ _ _ c.memchr.ensures c.in_ok-at.was
