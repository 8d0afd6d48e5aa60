use Rattle.std.proofs.Common.{◌≡◌, ◌≤◌, None, rules, ℕ, List, Option, Result, sym, subst}
use Rattle.std.specs.declared.num.ParseIntError.{ParseIntError}
use Rattle.command_words.proofs.Words.{ExplainsUnsignedError, HasUnsignedDigitsIfOk, IfSome, IsSomeAnd, IsUnsignedIn, ParsesUnsigned, found_of, one_of, option_map, option_or, rows_of}
use Rattle.command_words.proofs.Numbers.{its_default, no_default, none_given, number_failed, number_given, number_within, written}
use Rattle.command_words.proofs.parse.number.Goals as goal

abbrev Gives : List ℕ → Result ℕ ParseIntError → Type 0
Gives bs r = ParsesUnsigned 64 10 bs r × ExplainsUnsignedError 10 bs r × HasUnsignedDigitsIfOk bs r

pub returns-in-Ok-Some-clause-value : goal.returns-in-Ok-Some-clause-value
returns-in-Ok-Some-clause-value c =
    number_given Gives (λ t x g. g.0) (found_of c.args.found.now) c.args.option.now.name.now (option_map (λ t. t.now) c.args.option.now.default) c.in-Ok-Some.number c.try_get_one.result (search rules) c.try_get_one.ensures.none c.try_get_one.ensures.value

pub returns-in-Ok-Some-clause-reads : goal.returns-in-Ok-Some-clause-reads
returns-in-Ok-Some-clause-reads c = λ low high h.
    let d : Option (List ℕ) = option_map (λ t. t.now) c.args.option.now.default in
    let is = number_given Gives (λ t x g. g.0) (found_of c.args.found.now) c.args.option.now.name.now d c.in-Ok-Some.number c.try_get_one.result (search rules) c.try_get_one.ensures.none c.try_get_one.ensures.value in
    subst (λ (n : ℕ). n ≤ high) (sym is) (number_within (option_or (one_of c.args.option.now.name.now (rows_of (found_of c.args.found.now))) d) low high h).1

pub returns-in-Err-clause-reads : goal.returns-in-Err-clause-reads
returns-in-Err-clause-reads c = λ low high h.
    number_failed Gives (λ t x g. g.0) (found_of c.args.found.now) c.args.option.now.name.now (option_map (λ t. t.now) c.args.option.now.default) low high _ c.try_get_one.result c.in-Err.is c.try_get_one.ensures.none c.try_get_one.ensures.value h

pub returns-in_err-option-in-Ok-None-clause-reads : goal.returns-in_err-option-in-Ok-None-clause-reads
returns-in_err-option-in-Ok-None-clause-reads c = λ low high h.
    let f = found_of c.args.found.now in
    let id = c.args.option.now.name.now in
    let none : one_of id (rows_of f) ≡ None = none_given Gives (λ t x g. g.0) f id c.try_get_one.result (search rules) c.try_get_one.ensures.value in
    absurd (subst (λ (v : Option (List ℕ)). IsSomeAnd v (IsUnsignedIn low high)) (no_default (one_of id (rows_of f)) c.args.option.now.default none (search rules)) h)

pub returns-in_ok-option-in-Ok-None-clause-value : goal.returns-in_ok-option-in-Ok-None-clause-value
returns-in_ok-option-in-Ok-None-clause-value c =
    let f = found_of c.args.found.now in
    let id = c.args.option.now.name.now in
    let none : one_of id (rows_of f) ≡ None = none_given Gives (λ t x g. g.0) f id c.try_get_one.result (search rules) c.try_get_one.ensures.value in
    subst (λ (v : Option (List ℕ)). IfSome c.default_number.result (λ n. n ≡ written v)) (sym (its_default (one_of id (rows_of f)) c.args.option.now.default c.in_ok-option-in-Ok-None.field-0 none (search rules))) c.default_number.ensures.value

pub returns-in_ok-option-in-Ok-None-clause-reads : goal.returns-in_ok-option-in-Ok-None-clause-reads
returns-in_ok-option-in-Ok-None-clause-reads c = λ low high h.
    let f = found_of c.args.found.now in
    let id = c.args.option.now.name.now in
    let none : one_of id (rows_of f) ≡ None = none_given Gives (λ t x g. g.0) f id c.try_get_one.result (search rules) c.try_get_one.ensures.value in
    c.default_number.ensures.reads low high
    (subst (λ (v : Option (List ℕ)). IsSomeAnd v (IsUnsignedIn low high)) (its_default (one_of id (rows_of f)) c.args.option.now.default c.in_ok-option-in-Ok-None.field-0 none (search rules)) h)
