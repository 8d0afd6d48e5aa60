use Rattle.event_store.proofs.Recents.{remembered, most_stays}
use Rattle.event_store.proofs.recent.Recent.remember.Goals as goal

pub returns-then-is_first-clause-kept : goal.returns-then-is_first-clause-kept
returns-then-is_first-clause-kept c = λ lines cache first. remembered c.args.self.now.records c.put.new.self c.args.query c.new.result c.new.ensures c.put.result c.put.ensures.entries c.put.ensures.err lines cache (first c.if-is_first.true)

pub returns-then-is_first-clause-most : goal.returns-then-is_first-clause-most
returns-then-is_first-clause-most c = most_stays c.args.self.now.records c.put.new.self _ c.put.result c.put.ensures.entries c.put.ensures.err
