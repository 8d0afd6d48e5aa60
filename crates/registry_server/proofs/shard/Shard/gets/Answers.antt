use Rattle.std.proofs.Common.{ap, ◌∙◌, refl}
use Rattle.registry_server.proofs.Words.{IfOk-weaker, Node, claimed, gets_chosen, replay, server_gets, setting, shard}
use Rattle.registry_server.proofs.Rowing.{same_row}
use Rattle.registry_server.proofs.Hearing.{from_one, from_none, heard}
use Rattle.registry_server.proofs.shard.Shard.gets.Goals as goal

pub returns-in-Insert-clause-row : goal.returns-in-Insert-clause-row
returns-in-Insert-clause-row c =
    let t = c.args.station.now in
    let x = c.in-Insert.insert in
    IfOk-weaker c.claimed.result _ _
    (λ turn h g k l at about. heard (setting t g) t.site k l c.args.number turn c.args.packet.now about (server_gets (setting t g) t.site k l c.args.from) (λ m. claimed (setting t g) t.site k l x m (l.shards m) (replay (l.shards m).learned x.id x.token)) _ (shard (setting t g) x.id) c.in-Insert.is refl refl (h g k l at))
    c.claimed.ensures.row

pub returns-in-Chosen-clause-row : goal.returns-in-Chosen-clause-row
returns-in-Chosen-clause-row c =
    let t = c.args.station.now in
    let v = c.in-Chosen in
    IfOk-weaker c.gets_chosen.result _ _
    (λ turn h g k l at about. heard (setting t g) t.site k l c.args.number turn c.args.packet.now about (server_gets (setting t g) t.site k l c.args.from) (λ m. gets_chosen (setting t g) t.site k l (record { shard = m; slot = v.place.slot }) v.batch (l.shards m)) _ v.place.shard v.is refl refl (h g k l at))
    c.gets_chosen.ensures.row

pub returns-in-Replica-clause-row : goal.returns-in-Replica-clause-row
returns-in-Replica-clause-row c =
    let t = c.args.station.now in
    IfOk-weaker c.hears.result _ _
    (λ turn h g k l at about.
    same_row (setting t g) t.site l turn _ _ (ap (λ (from : Node). server_gets (setting t g) t.site k l from c.args.packet.now) c.in-Replica.is ∙ from_one (setting t g) t.site k l c.in-Replica.replica c.args.packet.now c.in_default.not-Insert c.in_default.not-Chosen) (h g k l at about))
    c.hears.ensures.row

pub returns-in_default-from-clause-row : goal.returns-in_default-from-clause-row
returns-in_default-from-clause-row c = λ g k l at about.
    let t = c.args.station.now in
    same_row (setting t g) t.site l c.idle.result _ _ (from_none (setting t g) t.site k l c.args.from c.args.packet.now c.in_default.not-Insert c.in_default.not-Chosen c.in_default-from.not-Replica) (c.idle.ensures.gives (setting t g) t.site l)
