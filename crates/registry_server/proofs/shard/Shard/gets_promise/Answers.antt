use Rattle.std.proofs.Common.{refl, subst, Option}
use Rattle.registry_server.proofs.Words.{cond-false, gets_promise, Ballot, Batch, IsStep, Promise, setting}
use Rattle.registry_server.proofs.Answering.{none_gives, promise_gives}
use Rattle.registry_server.proofs.shard.Shard.gets_promise.Goals as goal

pub returns-in_default-clause-row : goal.returns-in_default-clause-row
returns-in_default-clause-row c = λ g k l at.
    let t = c.args.station.now in
    none_gives (setting t g) t.site k l c.args.number c.args.round c.args.self.now at c.args.slot c.args.ballot (gets_promise (setting t g) t.site k l c.args.from (record { shard = c.args.number; slot = c.args.slot }) c.args.ballot c.args.prior.now (l.shards c.args.number)) c.idle.result c.in_default.ensures refl (λ q off. cond-false _ _ _ off) (c.idle.ensures.gives (setting t g) t.site l)

pub returns-clause-row : goal.returns-clause-row
returns-clause-row c = λ g k l at.
    let t = c.args.station.now in
    let is = subst (λ (o : Option (Ballot × Batch)). IsStep c.one.result c.args.number c.args.round c.in_ok-packets.packets.items (Promise c.args.from o)) c.in_ok-kept.ensures c.one.ensures in
    promise_gives t g k l c.args.number c.args.round c.args.self.now at c.args.slot c.args.ballot c.in-Some.proposal.now c.in-Some.ensures c.args.from c.args.prior.now c.one.result c.in_ok-packets.packets.items is c.in_ok-packets.ensures
