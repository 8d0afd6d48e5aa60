use Rattle.log_records.proofs.Places.{queries_begin, lines_begin}
use Rattle.log_records.proofs.laws.longer_log.Goals as goal

pub returns-clause-queries : goal.returns-clause-queries
returns-clause-queries c = queries_begin

pub returns-clause-lines : goal.returns-clause-lines
returns-clause-lines c = lines_begin
