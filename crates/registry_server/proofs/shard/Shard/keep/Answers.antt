use Rattle.std.proofs.Common.{sym, subst}
use Rattle.registry_server.proofs.Words.{IsShard, stepped, Step}
use Rattle.registry_server.proofs.shard.Shard.keep.Goals as goal

pub returns-in-Queue : goal.returns-in-Queue
returns-in-Queue c = λ g site st is. subst (λ (s : Step). IsShard c.put_last.new.self (stepped g site s st)) (sym c.in-Queue.is) (c.put_last.ensures g site st is)

pub returns-in-Promise : goal.returns-in-Promise
returns-in-Promise c = λ g site st is. subst (λ (s : Step). IsShard c.keep_promise.new.self (stepped g site s st)) (sym c.in-Promise.is) (c.keep_promise.ensures g site st is)

pub returns-in-Accept : goal.returns-in-Accept
returns-in-Accept c = λ g site st is. subst (λ (s : Step). IsShard c.keep_accepted.new.self (stepped g site s st)) (sym c.in-Accept.is) (c.keep_accepted.ensures g site st is)
