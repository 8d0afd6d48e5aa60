use Rattle.std.proofs.Common.{◌≡◌, ◌++◌, ◌&&◌}
use Rattle.photon_cli.proofs.Words.{DiskName, fuses_for, place_of, is_for, fuse_of}
use Rattle.photon_cli.proofs.Numbers.{is_below, one_if}
use Rattle.photon_cli.proofs.drill_store.build.add_stop.Given as goal

abbrev pub invariant-loop-number : goal.invariant-loop-number
invariant-loop-number l = (name : DiskName)
    → fuses_for l.stops.items name ≡ fuses_for l.fn.stops.items name ++ one_if (is_for l.joiners l.stop name && is_below l.number (place_of l.joiners name)) (fuse_of l.stop)
