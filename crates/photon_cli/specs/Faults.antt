-- The exit status of words that aren't read.
use Rattle.std.specs.Prelude.{ℕ}
use Rattle.photon_cli.specs.Terms.{WordsFault}
use Rattle.command_words.specs.declared.asked.WordsFault.TheVariants as words_fault

abbrev pub words_status : WordsFault → ℕ
words_status (words_fault.Refused error) = 2
words_status words_fault.Memory = 8
