use Rattle.std.proofs.Common.{◌≡◌, ◌+◌, ◌≤◌, ℕ, List, length, IsTrue, vec_len}
use Rattle.site_store.proofs.Words.{Each, DiskName, MayBeLeft, AllKept, lent_all}
use Rattle.site_store.proofs.disks.opening.give_each.Given as goal

abbrev pub invariant-loop-one : goal.invariant-loop-one
invariant-loop-one g l =
    let image = g.S.Store.image in
    let left = g.S.Disk.Disk.image in
    record {
      left : IsTrue g.S.Disk.Disk.tells → (name : DiskName) (c : List ℕ) → MayBeLeft left (image l.store) (lent_all l.disks.items) name c → MayBeLeft left (image l.fn.store) (lent_all l.fn.disks.items) name c;
      keep : IsTrue g.S.Disk.Disk.tells → Each (λ o. AllKept g.S.Disk.Disk.image o) l.disks.items → Each (λ o. AllKept g.S.Disk.Disk.image o) l.fn.disks.items;
      room : length l.disks.items ≤ g.S.Store.places_left l.store;
      places : g.S.Store.places_left l.fn.store + length l.disks.items ≤ g.S.Store.places_left l.store + length l.fn.disks.items;
      calm : Each (λ d. g.S.Disk.Disk.faults d.disk ≡ 0) (lent_all l.fn.disks.items) → Each (λ d. g.S.Disk.Disk.faults d.disk ≡ 0) (lent_all l.disks.items) × (g.S.Store.faults l.store ≡ g.S.Store.faults l.fn.store);
      count : g.S.Store.faults l.fn.store ≤ g.S.Store.faults l.store;
    }

abbrev pub decreases-loop-one : goal.decreases-loop-one
decreases-loop-one g l = vec_len l.disks
