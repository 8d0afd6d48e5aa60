-- How long the record of a pair is.
use Rattle.std.proofs.Common.{◌≤◌, [], ◌++◌, length, arith, length-append}
use Rattle.turn_defs.specs.declared.pair.PairRec.{PairRec}
use Rattle.turn_defs.specs.Spellings.{click, query, token, IsPair}
use Rattle.output_log.specs.Pairs.{record_of}
use Rattle.output_log.specs.declared.pair.TheConstants.{LONGEST}

pub fits : (pair : PairRec) → IsPair pair → length (record_of pair) ≤ LONGEST
fits pair is =
    omega (
      arith,
      is.click.text.len,
      is.query.text.len,
      length-append (click pair.click) (query pair.query ++ token pair.token),
      length-append (query pair.query) (token pair.token),
      length-append pair.click.text [],
    )
