use Rattle.std.proofs.Common.{refl, sym, ◌∙◌}
use Rattle.log_records.specs.Log.{line_feed}
use Rattle.list_words.proofs.Cuts.{front_lacks}
use Rattle.tail_reader.proofs.scan.line_len.Goals as goal

pub returns-clause-found : goal.returns-clause-found
returns-clause-found c =
    (c.in_ok-line.line.now, _, sym c.ahead.ensures.bytes ∙ c.in_ok-line.ensures.found, front_lacks line_feed c.in_ok-line.line.now c.ahead.result.now c.in_ok-line.ensures.parts.0, refl)
