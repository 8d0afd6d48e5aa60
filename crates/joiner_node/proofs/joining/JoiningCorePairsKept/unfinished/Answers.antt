use Rattle.joiner_node.proofs.Deciding.{up_stands}
use Rattle.joiner_node.proofs.joining.JoiningCorePairsKept.unfinished.Goals as goal

pub returns : goal.returns
returns g c g' k l knows = c.unfinished.ensures g' k.number k.disk l (up_stands c.args.self.now g' k l knows)
