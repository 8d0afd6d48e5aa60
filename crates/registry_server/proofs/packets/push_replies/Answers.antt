use Rattle.std.proofs.Common.{◌++◌, List, ap, ◌∙◌}
use Rattle.registry_server.proofs.Words.{take_all, Insert, Answer, Granted, setting, sent, each_reply}
use Rattle.registry_server.proofs.Sending.{replied_more}
use Rattle.registry_server.proofs.packets.push_replies.Goals as goal

pub loop-insert-preserved : goal.loop-insert-preserved
loop-insert-preserved c = λ g.
    replied_more (setting c.args.station.now g) c.args.station.now.site c.args.answered.now c.loop-insert.insert-index (record { id = record { ip = 0; pid = 0; micros = 0 }; token = record { joiner = 0; epoch = 0; number = 0 } }, Granted) _ _ _
    c.loop-insert-test.true (c.in_ok-push_reply.ensures g) (c.loop-insert.invariant g)

pub returns : goal.returns
returns c = λ g.
    c.loop-insert.invariant g ∙ ap (λ (ps : List (Insert × Answer)). sent c.args.packets.now.items ++ each_reply (setting c.args.station.now g) c.args.station.now.site ps) (take_all c.loop-insert.insert-index c.args.answered.now c.loop-insert-test.false)
