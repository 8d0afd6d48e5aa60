use Rattle.std.proofs.Common.{◌≡◌, map, take, false}
use Rattle.command_words.proofs.Words.{app_of, app_with, option_in}
use Rattle.clap.specs.declared.builder.command.Command.TheViews.{out-Command as fields_of}
use Rattle.command_words.proofs.commands.with_options.Given as goal

-- the command has the options so far
abbrev pub invariant-loop-option : goal.invariant-loop-option
invariant-loop-option l =
    record {
      shape : app_of l.command ≡ app_with l.name (map option_in (take l.option-index l.options));
      own : (fields_of l.command).has_globals ≡ false;
    }
