use Rattle.dispatch_node.proofs.Deciding.{keeps}
use Rattle.dispatch_node.proofs.dispatcher.DispatcherCorePlacesKept.keep.Goals as goal

pub returns-clause-knows : goal.returns-clause-knows
returns-clause-knows g c s k l on = keeps _ _ c.keep.ensures.numbers _ _ c.args.turn.change s k l (c.keep.ensures.stands s) on
