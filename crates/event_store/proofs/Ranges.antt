-- Ids of one process between two others.
use Rattle.std.proofs.Common.{◌≡◌, ◌<◌, ◌≤◌, ◌⊎◌, true, false, arith, is_gt}
use Rattle.event_store.proofs.Words.{EventId, id_cmp, same_process}

-- not above, as numbers
not_above : (a b : EventId) → is_gt (id_cmp a b) ≡ false → (a.ip < b.ip) ⊎ ((a.ip ≡ b.ip) × ((a.pid < b.pid) ⊎ ((a.pid ≡ b.pid) × (a.micros ≤ b.micros))))
not_above a b h = grind arith

-- what stands between two ids of a process is of that process
pub between : (lo hi k : EventId) → lo.ip ≡ hi.ip → lo.pid ≡ hi.pid → is_gt (id_cmp lo k) ≡ false → is_gt (id_cmp k hi) ≡ false → (same_process k hi ≡ true) × (lo.micros ≤ k.micros) × (k.micros ≤ hi.micros)
between lo hi k ip pid from up = grind (arith, not_above)
