use Rattle.std.proofs.Common.{rules, [], sym, ◌∙◌}
use Rattle.std.proofs.lemmas.List.{append-nil}
use Rattle.packet_codec.specs.Notes.{note}
use Rattle.output_log.proofs.VoteParts.{left_behind}
use Rattle.output_log.proofs.votes.read_vote.Goals as goal

pub returns-else-is_empty-clause-none : goal.returns-else-is_empty-clause-none
returns-else-is_empty-clause-none c n is e =
    let whole = c.new-from.ensures ∙ e ∙ sym (append-nil (note n)) in
    let taken = rw c.in-Ok.is at (c.take.ensures.only n [] is whole) in
    left_behind c.args.payload.now c.take.new.from c.in-Ok.note n (sym c.new-from.ensures ∙ c.in-Ok.ensures.found.1) e taken (search rules)

pub returns-in-Err-BadField-clause-none : goal.returns-in-Err-BadField-clause-none
returns-in-Err-BadField-clause-none c n is e =
    let whole = c.new-from.ensures ∙ e ∙ sym (append-nil (note n)) in
    rw c.in-Err-BadField.field-0-is at (rw c.in-Err-BadField.is at (c.take.ensures.only n [] is whole))
