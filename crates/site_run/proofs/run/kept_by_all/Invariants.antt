use Rattle.std.proofs.Common.{◌≡◌, take}
use Rattle.site_run.proofs.Words.{kept_all}
use Rattle.site_run.proofs.run.kept_by_all.Given as goal

-- the disks so far are told
abbrev pub invariant-loop-disk : goal.invariant-loop-disk
invariant-loop-disk g l = l.kept ≡ kept_all {D = g.row.D.Denot} (take l.disk-index l.disks)
