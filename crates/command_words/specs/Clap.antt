-- The command line as `clap` is told of it.
use Rattle.std.specs.Prelude.{List, [], map, Option, Some, None, option_map, codes, true}
use Rattle.clap.specs.Walk.{Row, Rule, first_of, one_of}
use Rattle.clap.specs.Simple.{App, Shape, new_rule, new_shape, with_subcommand}
use Rattle.clap.specs.declared.builder.value_parser.ValueParser.{ValueParser}
use Rattle.clap.specs.declared.builder.value_parser.ValueParser.TheVariants as vp
use Rattle.command_words.specs.Words.{Command, Opt, Text, bulk, drill, is_required, join, name_of, options_of, reshard, verify}
use Rattle.command_words.specs.declared.options.Form.{Form}
use Rattle.command_words.specs.declared.options.Form.TheVariants.{Number as number, AnyText as any_text, SomeText as some_text}
use Rattle.command_words.specs.declared.options.Opt.{Opt as Entry}

abbrev pub parser_of : Form → Option ValueParser
parser_of (number low high) = Some (vp.Unsigned low high)
parser_of any_text = None
parser_of some_text = Some vp.NonEmptyString

abbrev pub rule_of_option : Opt → Rule
rule_of_option o = record (new_rule o.name) { long = Some o.name; required = is_required o; parser = parser_of o.form }

-- the option of an entry of the code's table
abbrev pub option_in : Entry → Opt
option_in e = record { name = e.name.now; form = e.form; default = option_map (λ t. t.now) e.default }

abbrev pub shape_with : Text → List Opt → Shape
shape_with name options = record (new_shape name) { rules = map rule_of_option options }

-- a command with no subcommand
abbrev pub app_with : Text → List Opt → App
app_with name options = record { top = shape_with name options; subs = [] }

abbrev pub shape_of_command : Command → Shape
shape_of_command c = shape_with (name_of c) (options_of c)

-- a command is wanted, and `help` is no command; the version can be asked for
abbrev pub top_shape : Shape
top_shape = record (new_shape (codes "photon")) { subcommand_required = true; disable_help_subcommand = true; has_version = true }

abbrev pub photon_app : App
photon_app =
    with_subcommand (with_subcommand (with_subcommand (with_subcommand (with_subcommand (record { top = top_shape; subs = [] })
    (shape_of_command join)) (shape_of_command drill)) (shape_of_command verify)) (shape_of_command bulk)) (shape_of_command reshard)

-- the values that a parse found, as texts, and as the texts that numbers are read from
abbrev pub text_in : List Row → Text → Option Text
text_in rows name = first_of name rows

abbrev pub number_in : List Row → Text → Option Text
number_in rows name = one_of name rows
