use Rattle.std.proofs.Common.{◌++◌, List, ap, ◌∙◌}
use Rattle.registry_server.proofs.Words.{Insert, Answer, each_reply, setting, sent}
use Rattle.registry_server.proofs.Rowing.{learned_gives}
use Rattle.registry_server.proofs.shard.Shard.learned.Goals as goal

pub returns-clause-row : goal.returns-clause-row
returns-clause-row c = λ g k l at.
    let t = c.args.station.now in
    let vs = (l.shards c.args.number).learned in
    let known = c.make_room.ensures.known vs at.stands.learned.known in
    learned_gives (setting t g) t.site k l c.args.number c.one.result c.args.self.now c.args.value c.args.round _ (sent c.args.packets.items) c.in_ok-answered.answered at c.one.ensures
    (c.in_ok-push_replies.ensures g
    ∙ ap (λ (ps : List (Insert × Answer)). sent c.args.packets.items ++ each_reply (setting t g) t.site ps) (c.as_slice.ensures ∙ c.in_ok-answered.ensures vs known (c.bound-bound.ensures vs known) at.stands.learned.waits))
