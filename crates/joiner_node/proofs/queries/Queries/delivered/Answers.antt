use Rattle.std.proofs.Common.{ap}
use Rattle.joiner_node.proofs.Words.{Deliver}
use Rattle.turn_defs.specs.declared.packet.Packet.{Packet}
use Rattle.joiner_node.proofs.queries.Queries.delivered.Goals as goal

pub returns-in_ok-looked-in-Join-clause-carries : goal.returns-in_ok-looked-in-Join-clause-carries
returns-in_ok-looked-in-Join-clause-carries g c tells g' n k l has stands = ((c.args.from, ap (λ (p : Packet). Deliver c.args.from p) c.in-Join.is), c.in_ok-looked-in-Join.ensures.tells tells g' n k l has stands)
