use Rattle.std.proofs.Common.{◌≡◌, drop, None, fold}
use Rattle.verify_pass.specs.TooSoon.{taken}
use Rattle.site_store.proofs.Words.{kept_all}
use Rattle.site_store.specs.Adding.{accepted}
use Rattle.site_store.proofs.adding.forbidding.Given as goal

abbrev pub invariant-loop-disk : goal.invariant-loop-disk
invariant-loop-disk g l =
    fold (taken l.start) l.latest (accepted (kept_all (drop l.disk-index l.disks))) ≡ fold (taken l.start) (record { bound = 0; id = None }) (accepted (kept_all l.disks))
