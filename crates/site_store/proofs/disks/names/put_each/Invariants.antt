use Rattle.std.proofs.Common.{◌≡◌, ℕ, ◌<◌, ◌++◌}
use Rattle.site_store.proofs.Words.{DiskName, values_from}
use Rattle.site_store.proofs.disks.names.put_each.Given as goal

abbrev pub invariant-loop-number : goal.invariant-loop-number
invariant-loop-number g l =
    (f : ℕ → DiskName) → ((n : ℕ) → n < 256 → (name : DiskName) → goal.F-post g l.fn.named n name → name ≡ f n) → l.names.items ≡ l.fn.names.items ++ values_from f 0 l.number
