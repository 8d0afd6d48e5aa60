use Rattle.std.proofs.Common.{◌≡◌, drop}
use Rattle.site_store.proofs.Words.{limit_in, kept_all}
use Rattle.site_store.proofs.disks.checks.first_limit.Given as goal

abbrev pub invariant-loop-disk : goal.invariant-loop-disk
invariant-loop-disk g l = limit_in (kept_all l.disks) ≡ limit_in (kept_all (drop l.disk-index l.disks))
