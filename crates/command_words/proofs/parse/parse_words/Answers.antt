use Rattle.std.proofs.Common.{◌≡◌, ◌∙◌, true, List, [], Option, is_some, true≢false, sym, ap, subst}
use Rattle.command_words.proofs.Words.{App, HasKind, IsFound, IsInRanges, IsNamed, IsSomeAnd, Row, Text, is_simple, number_in, photon_app, subcommand_of, subcommand_rows_of, takes, text_in, texts, wish_of}
use Rattle.clap.specs.Faults.{fault_of, is_simple_and_free}
use Rattle.command_words.specs.declared.asked.Asked.{Asked}
use Rattle.command_words.proofs.Levels.{plain_gives}
use Rattle.command_words.proofs.Plain.{asks_for, by_kinds, for_memory}
use Rattle.command_words.proofs.Read.{has_values, taken, told}
use Rattle.command_words.proofs.parse.parse_words.Goals as goal
use Rattle.command_words.proofs.parse.parse_words.Goals.{After-asked_of}

-- `clap` took the words, and these are the rows of their command
none : (c : After-asked_of) → fault_of photon_app (texts c.args.words.now) ≡ []
none c = ap (λ (a : App). fault_of a (texts c.args.words.now)) (sym c.in_ok-command.ensures) ∙ c.in-Ok.ensures.kinds (ap is_simple_and_free c.in_ok-command.ensures)

sub_is : (c : After-asked_of) → subcommand_rows_of c.in-Ok.matches ≡ subcommand_of photon_app (texts c.args.words.now)
sub_is c = (c.in-Ok.ensures.ok.2 (ap is_simple c.in_ok-command.ensures)).1 ∙ ap (λ (a : App). subcommand_of a (texts c.args.words.now)) c.in_ok-command.ensures

-- what was read of them
read : (c : After-asked_of) (a : Asked) → IsSomeAnd (subcommand_rows_of c.in-Ok.matches) (λ p. IsNamed (wish_of a) p.0 (text_in p.1) (number_in p.1))
    → IsSomeAnd (subcommand_of photon_app (texts c.args.words.now)) (λ p. IsFound (wish_of a) p.0 (text_in p.1) (number_in p.1)) × IsInRanges (wish_of a)
read c a named = told (texts c.args.words.now) (wish_of a) (none c) (subst (λ (o : Option (Text × List Row)). IsSomeAnd o (λ p. IsNamed (wish_of a) p.0 (text_in p.1) (number_in p.1))) (sub_is c) named)

-- so each value is there
each_there : (c : After-asked_of) → is_some c.asked_of.result ≡ true
each_there c = let got = taken (texts c.args.words.now) (none c) in c.asked_of.ensures.reads got.command _ (sub_is c ∙ got.found) (has_values got.command got.rest got.holds)

pub returns-in-Err-clause-plain : goal.returns-in-Err-clause-plain
returns-in-Err-clause-plain c = λ command pairs plain.
    for_memory c.in-Err.error c.refused.result c.refused.ensures
    (c.in-Err.ensures.passes (ap (λ (a : App). takes a (texts c.args.words.now)) c.in_ok-command.ensures ∙ (plain_gives _ command pairs plain).taken))

pub returns-in-Err-clause-refused : goal.returns-in-Err-clause-refused
returns-in-Err-clause-refused c =
    by_kinds _ c.in-Err.error c.refused.result c.refused.ensures
    (subst (λ (a : App). HasKind (fault_of a (texts c.args.words.now)) c.in-Err.error) c.in_ok-command.ensures
    (c.in-Err.ensures.kinds (ap is_simple_and_free c.in_ok-command.ensures)))

pub returns-in-Some-clause-found : goal.returns-in-Some-clause-found
returns-in-Some-clause-found c = (read (goal.at.returns-in-Some-clause-found c).After-asked_of c.in-Some.asked c.in-Some.ensures.value).0

pub returns-in-Some-clause-plain : goal.returns-in-Some-clause-plain
returns-in-Some-clause-plain c = λ command pairs plain.
    let w = wish_of c.in-Some.asked in
    asks_for w command pairs (subst (λ (o : Option (Text × List Row)). IsSomeAnd o (λ p. IsFound w p.0 (text_in p.1) (number_in p.1))) (plain_gives _ command pairs plain).found (returns-in-Some-clause-found c))

pub returns-in-Some-clause-ranges : goal.returns-in-Some-clause-ranges
returns-in-Some-clause-ranges c = (read (goal.at.returns-in-Some-clause-ranges c).After-asked_of c.in-Some.asked c.in-Some.ensures.value).1

pub returns-in-Some-clause-taken : goal.returns-in-Some-clause-taken
returns-in-Some-clause-taken c = none (goal.at.returns-in-Some-clause-taken c).After-asked_of

pub returns-clause-plain : goal.returns-clause-plain
returns-clause-plain c = absurd (true≢false (sym (each_there (goal.at.returns-clause-plain c).After-asked_of) ∙ ap is_some c.in-None.is))

pub returns-clause-refused : goal.returns-clause-refused
returns-clause-refused c = absurd (true≢false (sym (each_there (goal.at.returns-clause-refused c).After-asked_of) ∙ ap is_some c.in-None.is))
