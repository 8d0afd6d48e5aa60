use Rattle.std.proofs.Common.{◌≡◌, Ok, refl}
use Rattle.event_store.specs.declared.store.Step.TheVariants as step
use Rattle.joiner_node.proofs.Reading.{given, keeps, finds, more, ends}
use Rattle.joiner_node.proofs.queries.Queries.step.Goals as goal

pub returns-in-Ok-Found-clause-found : goal.returns-in-Ok-Found-clause-found
returns-in-Ok-Found-clause-found g c tells qs has = finds _ _ qs c.args.id c.in-Ok-Found.query has (rw c.in-Ok-Found.field-0-is at (c.in-Ok-Found.ensures.found tells (given has.read) has.so_far))

pub returns-in-Ok-Line-clause-reads : goal.returns-in-Ok-Line-clause-reads
returns-in-Ok-Line-clause-reads g c tells qs has =
    let e : c.advance.result ≡ Ok step.Line = let a = c.in-Ok-Line.is in let b = c.in-Ok-Line.field-0-is in cc (a, b) in
    let next = c.advance.ensures.line tells e in
    keeps _ _ _ _ qs (c.advance.ensures.same tells) refl (more _ _ _ qs next.0 (keeps _ _ _ _ qs (c.lookup.ensures.same tells) c.lookup.ensures.place has) next.1)

pub returns-in-Ok-End-clause-found : goal.returns-in-Ok-End-clause-found
returns-in-Ok-End-clause-found g c tells qs has =
    let e : c.advance.result ≡ Ok step.End = let a = c.in-Ok-End.is in let b = c.in-Ok-End.field-0-is in cc (a, b) in
    let look = rw c.in-Ok-NotYet.field-0-is at (c.in-Ok-NotYet.ensures.found tells (given has.read) has.so_far) in
    let same = c.lookup.ensures.same tells in
    let place = c.lookup.ensures.place in
    let last = c.advance.ensures.end tells e in
    ends _ _ qs c.args.id c.in-Ok-NotYet.read has (rw same at (rw place at last)) look.0 look.1
