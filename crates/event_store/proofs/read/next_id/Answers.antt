use Rattle.event_store.proofs.Looking.{handed_out, passed_over}
use Rattle.std.proofs.Common.{◌∙◌, []}
use Rattle.event_store.proofs.Walks.{next_not_end}
use Rattle.event_store.proofs.read.next_id.Goals as goal

pub returns-in-Line-clause-line : goal.returns-in-Line-clause-line
returns-in-Line-clause-line g c = λ t next read step.
    let told = rw c.in-Line.is at (c.in-Ok.ensures.next t) in
    let place = rw c.in-Line.is at c.in-Ok.ensures.place in
    let out = handed_out (g.L.LogFile.bytes c.args.tail.now.log) c.args.tail.now.place _ _ next _ read told step in
    (place ∙ out.0, c.id_in.ensures read (rw c.line.ensures out.1))

pub returns-in-Long-clause-line : goal.returns-in-Long-clause-line
returns-in-Long-clause-line g c = λ t next read step.
    let told = rw c.in-Long.is at (c.in-Ok.ensures.next t) in
    let place = rw c.in-Long.is at c.in-Ok.ensures.place in
    let over = passed_over (g.L.LogFile.bytes c.args.tail.now.log) c.args.tail.now.place _ _ next [] c.args.front.now read told step in
    (place ∙ over.0, over.1)

pub returns-in-End-clause-line : goal.returns-in-End-clause-line
returns-in-End-clause-line g c = λ t next read step.
    let told = rw c.in-End.is at (c.in-Ok.ensures.next t) in
    absurd (next_not_end (g.L.LogFile.bytes c.args.tail.now.log) c.args.tail.now.place next read step told.1)
