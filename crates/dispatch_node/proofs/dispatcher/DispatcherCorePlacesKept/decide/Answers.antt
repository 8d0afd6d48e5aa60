use Rattle.dispatch_node.proofs.Deciding.{still, turned}
use Rattle.dispatch_node.proofs.dispatcher.DispatcherCorePlacesKept.decide.Goals as goal

pub returns-in_err-turn-clause-same : goal.returns-in_err-turn-clause-same
returns-in_err-turn-clause-same g c tells s k live knows = still _ _ c.decide.ensures.numbers _ _ _ s k live (c.in_ok-taken.ensures.same tells) (c.decide.ensures.same s k.disk) knows

pub returns-clause-same : goal.returns-clause-same
returns-clause-same g c tells s k live knows = still _ _ c.decide.ensures.numbers _ _ _ s k live (c.in_ok-taken.ensures.same tells) (c.decide.ensures.same s k.disk) knows

pub returns-clause-turn : goal.returns-clause-turn
returns-clause-turn g c tells s k live knows fits =
    let carried = c.in_ok-taken.ensures.carries tells s k live knows fits in
    turned _ _ c.decide.ensures.numbers _ _ _ _ c.note.result c.args.input s k live (c.in_ok-taken.ensures.same tells) c.note.ensures knows fits (c.in_ok-turn.ensures.turn s k.disk _ c.args.input carried.0 carried.1)
