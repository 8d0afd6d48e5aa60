use Rattle.std.proofs.Common.{rules}
use Rattle.photon_cli.proofs.Words.{fuses_for, place_of, fuse_of}
use Rattle.photon_cli.proofs.Numbers.{counted}
use Rattle.photon_cli.proofs.drill_store.build.add_stop.Goals as goal

pub loop-number-preserved : goal.loop-number-preserved
loop-number-preserved c name =
    counted (fuses_for c.loop-number.stops.items name) (fuses_for c.add_disk.new.stops.items name) (fuses_for c.args.stops.now.items name) c.loop-number.number c.args.stop.now.disk c.args.stop.now.which
    (place_of c.args.joiners name) (fuse_of c.args.stop.now) (search rules) (c.loop-number.invariant name)
