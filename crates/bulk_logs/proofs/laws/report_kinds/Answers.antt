use Rattle.bulk_logs.proofs.ReportLines.{kinds_are, totals_are}
use Rattle.bulk_logs.proofs.laws.report_kinds.Goals as goal

pub returns-clause-kinds : goal.returns-clause-kinds
returns-clause-kinds c = kinds_are

pub returns-clause-totals : goal.returns-clause-totals
returns-clause-totals c = totals_are
