use Rattle.std.proofs.Common.{◌≡◌, ◌∙◌, ◌+◌, ◌<◌, ◌++◌, ◌||◌, ℕ, suc, Bool, List, [], ◌∷◌, length, map, take, sym, ap, ap₂, arith}
use Rattle.std.proofs.Math.Seq.{take-suc}
use Rattle.command_words.proofs.Words.{App, Rule, app_of, app_with, get_or, map-append, new_shape, option_in, rule_of, rule_of_option, with_rule}
use Rattle.clap.specs.Walk.{Text}
use Rattle.command_words.specs.declared.options.Opt.{Opt as Entry}
use Rattle.command_words.proofs.commands.with_options.Goals as goal

-- the rules of one option more
one_more : (xs : List Entry) (k : ℕ) (d : Entry) → k < length xs
    → map rule_of_option (map option_in (take (k + 1) xs)) ≡ map rule_of_option (map option_in (take k xs)) ++ rule_of_option (option_in (get_or xs k d)) ∷ []
one_more xs k d lt =
    let next : k + 1 ≡ suc k = omega arith in
    ap (λ (n : ℕ). map rule_of_option (map option_in (take n xs))) next ∙ (ap (λ (l : List Entry). map rule_of_option (map option_in l)) (take-suc xs k d lt)
    ∙ (ap (map rule_of_option) (map-append option_in (take k xs) (get_or xs k d ∷ [])) ∙ map-append rule_of_option (map option_in (take k xs)) (option_in (get_or xs k d) ∷ [])))

kept : (name : Text) (xs : List Entry) (k : ℕ) (d : Entry) (a b : App) (r : Rule) → k < length xs → r ≡ rule_of_option (option_in (get_or xs k d)) → a ≡ app_with name (map option_in (take k xs)) → b ≡ with_rule a r
    → b ≡ app_with name (map option_in (take (k + 1) xs))
kept name xs k d a b r lt rule before is =
    is ∙ (ap (λ (q : Rule). with_rule a q) rule ∙ (ap (λ (x : App). with_rule x (rule_of_option (option_in (get_or xs k d)))) before
    ∙ ap (λ (rules : List Rule). record { top = record (new_shape name) { rules = rules }; subs = [] }) (sym (one_more xs k d lt))))

pub loop-option-preserved : goal.loop-option-preserved
loop-option-preserved c =
    record {
      shape = kept c.args.name.now c.args.options.now c.loop-option.option-index _ (app_of c.loop-option.command) (app_of c.in_ok-command.command) (rule_of c.argument.result) (omega arith)
          c.argument.ensures.rule c.loop-option.invariant.shape (c.in_ok-command.ensures.shape c.argument.ensures.own);
      own = c.in_ok-command.ensures.globals ∙ ap₂ (λ (a b : Bool). a || b) c.loop-option.invariant.own c.argument.ensures.own;
    }
