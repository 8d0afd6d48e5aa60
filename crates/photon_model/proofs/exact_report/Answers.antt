use Rattle.photon_model.proofs.Exact.{clicks_are_exact, report_is_exact}
use Rattle.photon_model.proofs.exact_report.Goals as goal

pub returns-clause-clicks : goal.returns-clause-clicks
returns-clause-clicks c = clicks_are_exact

pub returns-clause-report : goal.returns-clause-report
returns-clause-report c = report_is_exact
