use Rattle.std.proofs.Common.{◌≡◌, ◌++◌, drop}
use Rattle.photon_cli.proofs.Words.{DiskName, fuses_for, planned_for}
use Rattle.photon_cli.proofs.drill_store.build.stops_for.Given as goal

abbrev pub invariant-loop-stop : goal.invariant-loop-stop
invariant-loop-stop l = (name : DiskName) → fuses_for l.stops.items name ++ planned_for l.joiners (drop l.stop-index l.planned) name ≡ planned_for l.joiners l.planned name
