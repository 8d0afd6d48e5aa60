use Rattle.joiner_node.proofs.Words.{HasRead}
use Rattle.joiner_node.proofs.Deciding.{told}
use Rattle.joiner_node.proofs.queries.Queries.looked.Goals as goal

pub returns-then-not-needs_look_up-clause-tells : goal.returns-then-not-needs_look_up-clause-tells
returns-then-not-needs_look_up-clause-tells g c tells g' n k l has stands needs = let is = c.needs_look_up.ensures g' n k l stands in let out = c.if-not-needs_look_up.true in absurd (cc (needs, is, out))

pub returns-clause-tells : goal.returns-clause-tells
returns-clause-tells g c tells = told c.look_up.result (HasRead c.args.self.now) c.args.click.now c.args.core.now (c.look_up.ensures.found tells)
