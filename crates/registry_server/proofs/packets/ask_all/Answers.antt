use Rattle.std.proofs.Common.{◌++◌, ◌∷◌, [], ap, ◌∙◌}
use Rattle.registry_server.proofs.Words.{Packet, Replica, Only, sent, request}
use Rattle.registry_server.proofs.Sending.{sent_push, asked_turn, asked_all}
use Rattle.registry_server.proofs.packets.ask_all.Goals as goal

pub loop-replica-preserved : goal.loop-replica-preserved
loop-replica-preserved c =
    let before = c.loop-replica.packets.items in
    let r = c.loop-replica.replica in
    asked_turn r c.args.station.now.config.replicas (request c.args.place c.args.ballot c.args.value) (sent before) _ _ c.loop-replica-test.true
    (ap sent c.in_ok-push.ensures.items ∙ sent_push before _ ∙ ap (λ (p : Packet). sent before ++ (Only (Replica r), p) ∷ []) c.in_ok-asked.ensures)
    c.loop-replica.invariant

pub returns : goal.returns
returns c = asked_all c.loop-replica.replica c.args.station.now.config.replicas (request c.args.place c.args.ballot c.args.value) (sent c.loop-replica.packets.items) _ c.loop-replica-test.false c.loop-replica.invariant
