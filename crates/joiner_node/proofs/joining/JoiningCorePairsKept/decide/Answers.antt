use Rattle.joiner_node.proofs.Deciding.{turned}
use Rattle.joiner_node.proofs.joining.JoiningCorePairsKept.decide.Goals as goal

pub returns-in_ok-turn-in-Ok-clause-turn : goal.returns-in_ok-turn-in-Ok-clause-turn
returns-in_ok-turn-in-Ok-clause-turn g c tells g' k live knows fits =
    let was = c.args.self.now in
    let epoch = c.epoch-epoch.ensures.kept g' k live knows in
    let low = c.is_spent.ensures.low c.epoch-epoch.ensures.limit c.if-is_spent.false in
    let asked = c.in-Ok.asked in
    turned was c.decide.new.self c.asked.new.self g' k live c.args.input asked c.in_ok-turn-in-Ok.turn c.epoch-epoch.result knows fits epoch low c.in_ok-turn-in-Ok.ensures.same (c.asked.ensures.reads tells g'.queries knows.serves.queries)
    (λ l stands. c.in-Ok.ensures.carries tells g' k.number k.disk l knows.serves.queries epoch stands) (λ l ready carries. c.in_ok-turn-in-Ok.ensures.turn g' k.number k.disk l c.args.input ready carries)
