use Rattle.std.proofs.Common.{[], ◌∷◌, ◌++◌}
use Rattle.registry_state.proofs.Learning.{answers-are}
use Rattle.id_expiry.specs.Timed.{Knows}
use Rattle.id_expiry.proofs.timed.TimedRegistry.apply.Goals as goal

pub returns-clause-answers : goal.returns-clause-answers
returns-clause-answers c = λ applied k.
    let known : Knows c.learn.new.self (applied ++ c.args.batch.now ∷ []) = c.learn.ensures.known applied (c.in_ok-make_room.ensures.known applied k) in
    let e = c.answer_each.ensures (applied ++ c.args.batch.now ∷ []) known in
    let f = answers-are applied c.args.batch.now in
    cc
