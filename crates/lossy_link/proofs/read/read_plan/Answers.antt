use Rattle.serde_json.specs.View.{view}
use Rattle.lossy_link.proofs.Outcomes.{fault_of_value, plan_of_value}
use Rattle.lossy_link.proofs.read.read_plan.Goals as goal

pub returns-in-Ok-clause-plan : goal.returns-in-Ok-clause-plan
returns-in-Ok-clause-plan c = plan_of_value c.args.bytes.now (view c.in-Ok.value) c.plan_of.result c.if-bytes-gt-MOST_BYTES.false c.in-Ok.ensures.ok c.plan_of.ensures.ok

pub returns-in-Ok-clause-place : goal.returns-in-Ok-clause-place
returns-in-Ok-clause-place c = fault_of_value c.args.bytes.now (view c.in-Ok.value) c.plan_of.result c.if-bytes-gt-MOST_BYTES.false c.in-Ok.ensures.ok c.plan_of.ensures.err
