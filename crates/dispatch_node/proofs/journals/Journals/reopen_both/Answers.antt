use Rattle.std.proofs.Common.{false, refl}
use Rattle.dispatch_node.proofs.Words.{first_meets, one_by_one}
use Rattle.dispatch_node.proofs.journals.Journals.reopen_both.Goals as goal

pub returns-in-Err-clause-plan : goal.returns-in-Err-clause-plan
returns-in-Err-clause-plan g c planned = first_meets _ _ _ 3 _ _ _ _ _ _ c.fault_of.ensures.shut refl (c.in-Err.ensures.plan planned)

pub returns-in-Err-reopen-clause-plan : goal.returns-in-Err-reopen-clause-plan
returns-in-Err-reopen-clause-plan g c planned = one_by_one _ _ _ 3 _ _ _ _ _ _ c.fault_of-in-Err-reopen.ensures.shut (c.in-Ok.ensures.plan planned) (c.in-Err-reopen.ensures.plan planned)

pub returns-in-Ok-reopen-clause-plan : goal.returns-in-Ok-reopen-clause-plan
returns-in-Ok-reopen-clause-plan g c planned = one_by_one _ _ _ 3 false false _ _ _ _ refl (c.in-Ok.ensures.plan planned) (c.in-Ok-reopen.ensures.plan planned)
