use Rattle.photon_model.proofs.Adding.{moves_unsettled, store_stays, report_stays, whole_stays}
use Rattle.photon_model.proofs.added_rows.Goals as goal

pub returns-clause-moved : goal.returns-clause-moved
returns-clause-moved c g d row i s free = moves_unsettled g d row s free i

pub returns-clause-stores : goal.returns-clause-stores
returns-clause-stores c g d row s free = store_stays g d row s free

pub returns-clause-report : goal.returns-clause-report
returns-clause-report c g d row s free = report_stays g d row s free

pub returns-clause-whole : goal.returns-clause-whole
returns-clause-whole c = whole_stays
