use Rattle.command_words.proofs.Words.{HaveValues, IsReadable, bulk, found_of, number_in, options_of, rows_of, text_in}
use Rattle.command_words.specs.declared.options.TheConstants.{MOST_CLICKS}
use Rattle.command_words.proofs.parse.bulk.Goals as goal

pub returns-in_err-clicks-clause-reads : goal.returns-in_err-clicks-clause-reads
returns-in_err-clicks-clause-reads c = λ h.
    let rows = rows_of (found_of c.args.found.now) in
    let all : HaveValues (text_in rows) (number_in rows) IsReadable (options_of bulk) = h in
    absurd (c.in_err-clicks.ensures.reads 0 MOST_CLICKS all.1.0)

pub returns-in_err-number-clause-reads : goal.returns-in_err-number-clause-reads
returns-in_err-number-clause-reads c = λ h.
    let rows = rows_of (found_of c.args.found.now) in
    let all : HaveValues (text_in rows) (number_in rows) IsReadable (options_of bulk) = h in
    absurd (c.in_err-number.ensures.reads 0 18446744073709551615 all.0)
