use Rattle.std.proofs.Common.{sym, ◌∙◌, subst}
use Rattle.dispatch_node.proofs.Words.{Fits, IfOk-weaker, Input, Own, Tick, Deliver, Carries, known}
use Rattle.dispatch_node.proofs.Carried.{knows_up, start_carried, trying_start, trying_found}
use Rattle.dispatch_node.proofs.asking.look_up.Goals as goal

pub returns-in_ok-pending-in-Start-clause-carries : goal.returns-in_ok-pending-in-Start-clause-carries
returns-in_ok-pending-in-Start-clause-carries g c tells s k live knows fits =
    (knows.serves.config, (c.in-Start.is, start_carried s c.args.core.now _ c.args.held.now k live _ (subst (λ (i : Input). Fits live i) c.in-Start.is fits) knows (c.in_ok-pending-in-Start.ensures.items ∙ c.deref.ensures.value)))

pub returns-in-Own-clause-carries : goal.returns-in-Own-clause-carries
returns-in-Own-clause-carries g c tells s k live knows fits =
    let up = knows_up s c.args.core.now _ _ k live Own tt (subst (λ (i : Input). Fits live i) c.in-Own.is fits) knows in
    IfOk-weaker c.look_in_log.result _ _ (λ taken both. (both.0, subst (λ (i : Input). Carries s k.disk (known c.args.core.now live) taken i) (sym c.in-Own.is) both.1)) (c.look_in_log.ensures.carries tells s k.disk _ knows.serves.lines up.0 up.1)

pub returns-in_ok-trying-in-Tick-clause-carries : goal.returns-in_ok-trying-in-Tick-clause-carries
returns-in_ok-trying-in-Tick-clause-carries g c tells s k live knows fits =
    let core = c.args.core.now in
    let up = knows_up s core _ _ k live Tick tt (subst (λ (i : Input). Fits live i) c.in-Tick.is fits) knows in
    let l = known core live in
    let starts = trying_start s core k.disk l up.0 up.1 c.trying.result.now c.trying.ensures in
    (up.0, (c.in-Tick.is, trying_found s core k.disk l up.0 up.1 c.trying.result.now c.in_ok-trying-in-Tick.trying.items c.trying.ensures (c.in_ok-trying-in-Tick.ensures.clicks tells s knows.serves.lines starts)))

pub returns-in-Deliver-clause-carries : goal.returns-in-Deliver-clause-carries
returns-in-Deliver-clause-carries g c tells s k live knows fits =
    let up = knows_up s c.args.core.now _ _ k live (Deliver c.in-Deliver.from c.in-Deliver.packet) tt (subst (λ (i : Input). Fits live i) c.in-Deliver.is fits) knows in
    (up.0, c.in-Deliver.is)
