use Rattle.std.proofs.Common.{◌≡◌, drop, map}
use Rattle.site_run.proofs.Words.{Mem}
use Rattle.site_run.proofs.built.taking.take_disk.Given as goal

abbrev pub invariant-loop-i : goal.invariant-loop-i
invariant-loop-i g l = record {
  there : Mem l.name (map (λ o. o.name) (drop l.i l.disks.items));
  same : l.disks.items ≡ l.fn.disks.items;
}
