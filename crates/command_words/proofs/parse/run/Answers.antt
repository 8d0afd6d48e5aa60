use Rattle.std.proofs.Common.{◌∷◌}
use Rattle.command_words.proofs.Words.{HaveValues, IsReadable, found_of, horizon, node_options, number_in, rows_of, text_in}
use Rattle.command_words.proofs.parse.run.Goals as goal

pub returns-in_err-number-clause-reads : goal.returns-in_err-number-clause-reads
returns-in_err-number-clause-reads c = λ h.
    let rows = rows_of (found_of c.args.found.now) in
    let all : HaveValues (text_in rows) (number_in rows) IsReadable (horizon ∷ node_options) = h in
    absurd (c.in_err-number.ensures.reads 0 18446744073709551615 all.0)
