use Rattle.std.proofs.Common.{refl}
use Rattle.registry_server.proofs.Words.{cond-false, gets_nack, setting}
use Rattle.registry_server.proofs.Answering.{none_gives}
use Rattle.registry_server.proofs.shard.Shard.gets_nack.Goals as goal

pub returns-in_default-clause-row : goal.returns-in_default-clause-row
returns-in_default-clause-row c = λ g k l at.
    let t = c.args.station.now in
    none_gives (setting t g) t.site k l c.args.number c.args.round c.args.self.now at c.args.slot c.args.ballot (gets_nack (setting t g) t.site k l (record { shard = c.args.number; slot = c.args.slot }) c.args.ballot c.args.promised (l.shards c.args.number)) c.idle.result c.in_default.ensures refl (λ q off. cond-false _ _ _ off) (c.idle.ensures.gives (setting t g) t.site l)
