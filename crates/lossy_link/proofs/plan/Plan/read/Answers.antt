use Rattle.lossy_link.proofs.Outcomes.{only_place, only_plan}
use Rattle.lossy_link.proofs.plan.Plan.read.Goals as goal

pub returns-clause-only : goal.returns-clause-only
returns-clause-only c = only_plan c.args.bytes.now c.read_plan.result c.read_plan.ensures.plan c.read_plan.ensures.place

pub returns-clause-refused : goal.returns-clause-refused
returns-clause-refused c = only_place c.args.bytes.now c.read_plan.result c.read_plan.ensures.plan c.read_plan.ensures.place
