use Rattle.std.proofs.Common.{refl}
use Rattle.registry_server.proofs.Words.{IfOk-weaker, from_replica, gets_accepted, gets_nack, gets_promise, setting}
use Rattle.registry_server.proofs.Rowing.{same_row}
use Rattle.registry_server.proofs.Hearing.{heard, unheard}
use Rattle.registry_server.proofs.shard.Shard.hears.Goals as goal

pub returns-in-Promise-clause-row : goal.returns-in-Promise-clause-row
returns-in-Promise-clause-row c =
    let t = c.args.station.now in
    let v = c.in-Promise in
    IfOk-weaker c.gets_promise.result _ _
    (λ turn h g k l at about. heard (setting t g) t.site k l c.args.number turn c.args.packet.now about (from_replica (setting t g) t.site k l c.args.from) (λ m. gets_promise (setting t g) t.site k l c.args.from (record { shard = m; slot = v.place.slot }) v.ballot v.prior (l.shards m) (l.shards m).proposal) _ v.place.shard v.is refl refl (h g k l at))
    c.gets_promise.ensures.row

pub returns-in-Accepted-clause-row : goal.returns-in-Accepted-clause-row
returns-in-Accepted-clause-row c =
    let t = c.args.station.now in
    let v = c.in-Accepted in
    IfOk-weaker c.gets_accepted.result _ _
    (λ turn h g k l at about. heard (setting t g) t.site k l c.args.number turn c.args.packet.now about (from_replica (setting t g) t.site k l c.args.from) (λ m. gets_accepted (setting t g) t.site k l c.args.from (record { shard = m; slot = v.place.slot }) v.ballot (l.shards m) (l.shards m).proposal) _ v.place.shard v.is refl refl (h g k l at))
    c.gets_accepted.ensures.row

pub returns-in-Nack-clause-row : goal.returns-in-Nack-clause-row
returns-in-Nack-clause-row c = λ g k l at about.
    let t = c.args.station.now in
    let v = c.in-Nack in
    heard (setting t g) t.site k l c.args.number c.gets_nack.result c.args.packet.now about (from_replica (setting t g) t.site k l c.args.from) (λ m. gets_nack (setting t g) t.site k l (record { shard = m; slot = v.place.slot }) v.ballot v.promised (l.shards m) (l.shards m).proposal) _ v.place.shard v.is refl refl (c.gets_nack.ensures.row g k l at)

pub returns-in_default-clause-row : goal.returns-in_default-clause-row
returns-in_default-clause-row c = λ g k l at about.
    let t = c.args.station.now in
    same_row (setting t g) t.site l c.idle.result _ _ (unheard (setting t g) t.site k l c.args.from c.args.packet.now c.in_default.not-Promise c.in_default.not-Accepted c.in_default.not-Nack) (c.idle.ensures.gives (setting t g) t.site l)
