use Rattle.std.proofs.Common.{true≢false, sym, arith}
use Rattle.command_words.proofs.Words.{HaveValues, IsReadable, found_of, node_options, number_in, rows_of, text_in}
use Rattle.command_words.proofs.parse.nodes.Goals as goal

pub returns-in_err-small-clause-reads : goal.returns-in_err-small-clause-reads
returns-in_err-small-clause-reads c = λ h.
    let rows = rows_of (found_of c.args.found.now) in
    let all : HaveValues (text_in rows) (number_in rows) IsReadable node_options = h in
    absurd (true≢false (sym (c.in_err-small.ensures.reads 1 4 (omega arith) all.0)))

pub returns-in_err-small-2-clause-reads : goal.returns-in_err-small-2-clause-reads
returns-in_err-small-2-clause-reads c = λ h.
    let rows = rows_of (found_of c.args.found.now) in
    let all : HaveValues (text_in rows) (number_in rows) IsReadable node_options = h in
    absurd (true≢false (sym (c.in_err-small-2.ensures.reads 1 64 (omega arith) all.1.1.0)))
