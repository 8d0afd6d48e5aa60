use Rattle.std.proofs.Common.{rules}
use Rattle.photon_cli.proofs.Words.{fuses_for, planned_for}
use Rattle.photon_cli.proofs.Fuses.{taken}
use Rattle.photon_cli.proofs.drill_store.build.stops_for.Goals as goal

pub loop-stop-preserved : goal.loop-stop-preserved
loop-stop-preserved c name =
    taken c.args.joiners c.args.planned.now c.loop-stop.stop-index _ name (fuses_for c.loop-stop.stops.items name) (fuses_for c.add_stop.new.stops.items name) (planned_for c.args.joiners c.args.planned.now name)
    (search rules) (c.in_ok-add_stop.ensures name) (c.loop-stop.invariant name)
