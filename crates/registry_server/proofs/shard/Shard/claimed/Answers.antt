use Rattle.std.proofs.Common.{◌++◌, List, refl, ap, ◌∙◌}
use Rattle.registry_server.proofs.Words.{Packet, Node, reply, setting, sent}
use Rattle.registry_server.proofs.Rowing.{replayed_gives}
use Rattle.registry_server.proofs.shard.Shard.claimed.Goals as goal

pub returns-in-Some-clause-row : goal.returns-in-Some-clause-row
returns-in-Some-clause-row c = λ g k l at.
    let x = c.args.insert in
    let a = c.in-Some.answer in
    let t = c.args.station.now in
    replayed_gives (setting t g) t.site k l c.args.number _ x a (c.in-Some.ensures (l.shards c.args.number).learned at.stands.learned.known) refl refl
    (c.in_ok-push_reply.ensures g ∙ ap (λ (ps : List (Node × Packet)). sent ps ++ reply (setting t g) t.site x a) c.new-packets.ensures.items)
