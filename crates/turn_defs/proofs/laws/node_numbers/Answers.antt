use Rattle.turn_defs.proofs.Numbers.{numbers_are_nodes}
use Rattle.turn_defs.proofs.laws.node_numbers.Goals as goal

pub returns : goal.returns
returns c = numbers_are_nodes
