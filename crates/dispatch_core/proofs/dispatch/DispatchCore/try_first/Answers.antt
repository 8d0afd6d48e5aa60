use Rattle.dispatch_core.proofs.Words.{succeeded, live_of}
use Rattle.dispatch_core.proofs.Sets.{tried}
use Rattle.dispatch_core.proofs.dispatch.DispatchCore.try_first.Goals as goal

pub returns-in-Some-clause-live : goal.returns-in-Some-clause-live
returns-in-Some-clause-live c = λ ordered.
    let old = c.args.self.now in
    let p = c.in-Some.position in
    let keys = tried old.due.items c.pop_front.new.self.items old.trying.keys c.insert.new.self.keys p c.in-Some.ensures.items (ordered.apart p) (succeeded c.insert.result _ (c.insert.ensures.succeeds c.requires) c.insert.ensures.keys) in
    λ i. record (live_of old) { due = c.pop_front.ensures.rest i; trying = keys i }
