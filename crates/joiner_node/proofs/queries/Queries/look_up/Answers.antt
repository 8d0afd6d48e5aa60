use Rattle.joiner_node.proofs.queries.Queries.look_up.Goals as goal

pub returns-in-Ok-Some-clause-found : goal.returns-in-Ok-Some-clause-found
returns-in-Ok-Some-clause-found g c tells qs has = rw c.in-Ok-Some.field-0-is at (c.in-Ok-Some.ensures.found tells qs (c.lines.invariant.reads tells qs has))
