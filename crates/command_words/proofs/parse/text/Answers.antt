use Rattle.std.proofs.Common.{◌∙◌, [], Option, ap}
use Rattle.command_words.proofs.Words.{Text, found_of, option_map, option_or, unwrap_or}
use Rattle.clap.proofs.WalkLemmas.{first_value-rows}
use Rattle.command_words.proofs.Numbers.{or_default}
use Rattle.command_words.proofs.parse.text.Goals as goal

pub returns : goal.returns
returns c =
    let d = c.args.option.now.default in
    or_default c.get_str.result d c.or.result c.unwrap_or.result _ c.unwrap_or.ensures c.or.ensures
    ∙ ap (λ (o : Option Text). unwrap_or (option_or o (option_map (λ t. t.now) d)) []) (c.get_str.ensures ∙ first_value-rows (found_of c.args.found.now) c.args.option.now.name.now)
