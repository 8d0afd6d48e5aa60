use Rattle.std.proofs.Common.{[], false, arith}
use Rattle.outside.proofs.Plans.{and_then}
use Rattle.site_store.proofs.Words.{lent_by}
use Rattle.site_store.proofs.Lending.{given_back}
use Rattle.site_store.proofs.Planned.{first_used, one_taken}
use Rattle.site_store.proofs.disks.opening.open_one.Goals as goal

pub returns-in-Err-clause-back : goal.returns-in-Err-clause-back
returns-in-Err-clause-back g c tells =
    let image = g.S.Store.image in
    let left = g.S.Disk.Disk.image in
    let taken = c.in-Ok.ensures in
    given_back (image c.args.store.now) (image c.take.new.self) (image c.give-in-Err.new.self) c.args.name (left c.ask.new.disk) (left c.in-Err.disk)
    (λ bytes now. taken.images tells bytes ((c.ask.ensures.moments tells).now bytes now)) (c.in-Err.ensures.err_stays tells) (c.take.ensures.others tells) (c.give-in-Err.ensures.images tells) (c.give-in-Err.ensures.others tells)

pub returns-in-Ok-open-clause-plan : goal.returns-in-Ok-open-clause-plan
returns-in-Ok-open-clause-plan g c planned =
    let d = g.S.Disk.Disk in
    let s = g.S.Store in
    let tells = (g.met.S.Disk.Disk g.world.𝓛 g.world.𝓜 g.world.𝓡 ((λ s x. x), (λ x. x), (λ x. x), λ x. x)).plan_told planned in
    let taken = c.in-Ok.ensures in
    let asked = c.ask.ensures.plan planned (taken.up tells) in
    let used = and_then d.stops d.made d.faults 0 3 3 false c.in-Ok.disk c.ask.new.disk c.in-Ok-open.open.disk (omega arith) asked.0 (c.in-Ok-open.ensures.ok_plan planned asked.1) in
    first_used d s c.args.store.now c.take.new.self 3 (record { name = c.args.name; disk = c.in-Ok.disk }) (lent_by c.in-Ok-open.open) [] c.in-Ok-open.ensures.name used
    (one_taken d s c.args.store.now c.args.name c.in-Ok.disk (taken.stops tells) (taken.made tells) taken.fresh c.take.new.self (c.take.ensures.stops_others tells) (c.take.ensures.made_others tells) (c.take.ensures.tally tells))
