-- What a built command has of a table of options.
use Rattle.std.proofs.Common.{◌≡◌, ◌++◌, ◌&&◌, not, Bool, true, false, List, [], ◌∷◌, map, Option, Some, is_some, arith}
use Rattle.command_words.proofs.Words.{AllByRecursion, Form, Opt, Rule, Text, accepts, any_text, bytes_eq, filled, help_rule, list_any, nat_lt, number, option_map_or, parser_of, parser_of_value, some_text, unwrap_or}
use Rattle.clap.specs.Lexer.{long_of}
use Rattle.clap.specs.declared.builder.value_parser.ValueParser.TheVariants as vp
use Rattle.command_words.proofs.Walks.{full_rule}

abbrev pub full_rules : List Opt → List Rule
full_rules options = map full_rule options ++ filled help_rule ∷ []

-- ---- a test of a table

abbrev pub accepts_as : Form → Text → Bool
accepts_as f v = accepts false (parser_of_value (Some (unwrap_or (parser_of f) vp.String))) v

abbrev fits_number : Form → Bool
fits_number (number low high) = nat_lt high 18446744073709551616
fits_number any_text = true
fits_number some_text = true

abbrev is_name : Text → Option (Text × Option Text) → Bool
is_name name o = option_map_or (λ p. bytes_eq p.0 name && not (is_some p.1)) o false

-- the parser takes the option's name whole, no option before it has it, and its range and default are fit
abbrev fits : List Opt → Opt → Bool
fits before o =
    is_name o.name (long_of (45 ∷ 45 ∷ o.name)) && (not (bytes_eq (45 ∷ 45 ∷ o.name) (45 ∷ 45 ∷ []))
    && (not (list_any (λ (b : Opt). bytes_eq b.name o.name) before) && (fits_number o.form && option_map_or (accepts_as o.form) o.default true)))

abbrev pub all_fit : (before options : List Opt) → Bool
all_fit before [] = true
all_fit before (o ∷ os) = fits before o && all_fit (before ++ o ∷ []) os

-- ---- its rules

-- what the test of an option tells
abbrev Parts : List Opt → Opt → Type 0
Parts before o =
    (is_name o.name (long_of (45 ∷ 45 ∷ o.name)) ≡ true) × (not (bytes_eq (45 ∷ 45 ∷ o.name) (45 ∷ 45 ∷ [])) ≡ true)
    × (not (list_any (λ (b : Opt). bytes_eq b.name o.name) before) ≡ true) × (fits_number o.form ≡ true) × (option_map_or (accepts_as o.form) o.default true ≡ true)

pub defaults_fit : (before options : List Opt) → all_fit before options ≡ true → AllByRecursion (λ (o : Opt). option_map_or (accepts_as o.form) o.default true ≡ true) options
defaults_fit before [] e = tt
defaults_fit before (o ∷ os) e = grind (arith, defaults_fit (before ++ o ∷ []) os)
