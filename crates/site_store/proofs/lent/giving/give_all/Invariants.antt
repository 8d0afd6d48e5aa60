use Rattle.std.proofs.Common.{◌≡◌, ◌+◌, ◌≤◌, ℕ, List, length, IsTrue, vec_len}
use Rattle.site_store.proofs.Words.{Each, DiskName, MayBeLeft, all_lent}
use Rattle.site_store.proofs.Handing.{OutOrRose}
use Rattle.site_store.proofs.lent.giving.give_all.Given as goal

abbrev pub invariant-loop-one : goal.invariant-loop-one
invariant-loop-one g l =
    let image = g.S.Store.image in
    let left = g.S.Disk.Disk.image in
    record {
      left : IsTrue g.S.Disk.Disk.tells → (name : DiskName) (c : List ℕ) → MayBeLeft left (image l.store) (all_lent l.disks.items) name c → MayBeLeft left (image l.fn.store) (all_lent l.fn.disks.items) name c;
      room : length l.disks.items ≤ g.S.Store.places_left l.store;
      places : g.S.Store.places_left l.fn.store + length l.disks.items ≤ g.S.Store.places_left l.store + length l.fn.disks.items;
      count : g.S.Store.faults l.fn.store ≤ g.S.Store.faults l.store;
      calm : Each (λ d. g.S.Disk.Disk.faults d.disk ≡ 0) (all_lent l.fn.disks.items) → Each (λ d. g.S.Disk.Disk.faults d.disk ≡ 0) (all_lent l.disks.items) × (g.S.Store.faults l.store ≡ g.S.Store.faults l.fn.store);
      rose : OutOrRose g.S.Disk.Disk.faults l.fn.disks.items l.disks.items (g.S.Store.faults l.fn.store) (g.S.Store.faults l.store);
    }

abbrev pub decreases-loop-one : goal.decreases-loop-one
decreases-loop-one g l = vec_len l.disks
