use Rattle.joiner_node.proofs.joining.JoiningCorePairsKept.keep.Goals as goal

pub returns-clause-knows : goal.returns-clause-knows
returns-clause-knows g c g' k l on = let stands = c.keep.ensures g' k.number k.disk l on.core in record { serves = record { core = stands.serves; queries = on.queries }; by = stands }
