use Rattle.std.proofs.Common.{None, refl}
use Rattle.dispatch_node.proofs.Carried.{looks_not, due_starts, due_found, line_found_at, place_readable}
use Rattle.dispatch_node.proofs.asking.look_in_log.Goals as goal

pub returns-then-not-looks-clause-carries : goal.returns-then-not-looks-clause-carries
returns-then-not-looks-clause-carries g c tells s k l is stands places = (stands, (refl, looks_not s c.args.core.now k l stands places c.looks.result None None c.looks.ensures c.if-not-looks.true))

pub returns-in_ok-due-in-Some-clause-carries : goal.returns-in_ok-due-in-Some-clause-carries
returns-in_ok-due-in-Some-clause-carries g c tells s k l is stands places =
    let core = c.args.core.now in
    let p = c.in-Some.position in
    let starts = due_starts s core k l stands places p c.in-Some.ensures.some in
    (stands, (refl, due_found s core k l stands places p None c.in_ok-due-in-Some.due c.in-Some.ensures.some (c.in_ok-due-in-Some.ensures.click tells s is starts)))

pub returns-in_ok-line-in-None-clause-carries : goal.returns-in_ok-line-in-None-clause-carries
returns-in_ok-line-in-None-clause-carries g c tells s k l is stands places =
    let core = c.args.core.now in
    let readable = place_readable s core k l stands places c.place.result c.place.ensures in
    (stands, (refl, line_found_at s core k l stands places c.place.result c.in_ok-line-in-None.line None c.in-None.ensures.none c.place.ensures (c.in_ok-line-in-None.ensures.line tells s is readable)))
