-- The words of this crate's proofs: what they take from its definitions and from the crates below, under one name each.
pub use Rattle.clap.specs.Facts.{explicit_source, parser_of_value, unwrap_or_range}
pub use Rattle.clap.specs.Kinds.{HasKind, Kinds, or_else, values_kinds}
pub use Rattle.clap.specs.Matches.{TriesOne, found_of, one_text}
pub use Rattle.clap.specs.Simple.{App, Shape, app_of, argument_words, built, built_leaf, entered, filled, help_rule, inherited, is_simple, label_of, marked_built, names_of, new_shape, rows_at, subcommand_of, subcommand_rows_of, with_index, with_leaf_noted, with_rule}
pub use Rattle.clap.specs.Takes.{default_passes, is_given, is_valid, level_passes, settle_passes, takes, turn_passes, use_passes}
pub use Rattle.clap.specs.ValueTests.{accepts}
pub use Rattle.clap.specs.Values.{Accepts, IsUnsignedIn, kind_of}
pub use Rattle.clap.specs.Walk.{Held, Outcome, Row, Rule, Waiting, Walk, after_step, answers_to, arg_by_id, arg_by_index, arg_by_long, at_row, finished, first_of, has_row, long_or_other, next, nothing_held, one_of, option, option_met, option_word, reacted, reading_by, row_text, rows_after, rows_of, rule_of, settled_rows, stop_after, used, used_by_id, walk, walk_from, with_default}
pub use Rattle.command_words.specs.Clap.{app_with, number_in, option_in, parser_of, photon_app, rule_of_option, shape_of_command, text_in}
pub use Rattle.command_words.specs.Words.{ArePairsOf, Command, Given, HaveValues, IsFaultOf, IsFound, IsInRanges, IsNamed, IsPlain, IsReadable, IsRefusedBy, IsValue, Opt, Pairs, Text, Wish, bulk, drill, given, given_as, horizon, is_required, join, name_of, node_options, option_named, options_of, pair_words, reshard, texts, value_of, verify, wish_by, wish_of}
pub use Rattle.command_words.specs.declared.options.Form.{Form}
pub use Rattle.command_words.specs.declared.options.Form.TheVariants.{AnyText as any_text, Number as number, SomeText as some_text}
pub use Rattle.std.proofs.lemmas.List.{append-nil, map-append}
pub use Rattle.std.specs.List.{All, AllByRecursion, list_all, list_any}
pub use Rattle.std.specs.Option.{option_map_or, option_or}
pub use Rattle.std.specs.Prelude.{IfSome, IsSome, IsSomeAnd, codes, find, fold, get_or, nat_lt, option_and_then, option_map, slice_get, unwrap_or, ⊤}
pub use Rattle.std.specs.Str.{bytes_eq}
pub use Rattle.std.specs.Str.Parse.{AllDigits, ExplainsUnsignedError, HasUnsignedDigitsIfOk, ParsesUnsigned, digits_value, without_leading_plus}
