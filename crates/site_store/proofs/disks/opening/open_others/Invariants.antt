use Rattle.std.proofs.Common.{◌≡◌, ◌+◌, ◌≤◌, length, take, IsTrue, map, vec_len, vec_capacity}
use Rattle.site_store.proofs.Words.{Each, IsLent, IsOfKind, IsKept, kept_by, lent_all}
use Rattle.site_store.specs.Plans.{AreAsPlanned}
use Rattle.site_store.proofs.disks.opening.open_others.Given as goal

abbrev pub invariant-loop-i : goal.invariant-loop-i
invariant-loop-i g l =
    let image = g.S.Store.image in
    let tells = g.S.Disk.Disk.tells in
    record {
      names : map (λ o. o.name) l.disks.items ≡ take l.i l.names.items;
      many : vec_len l.disks ≡ l.i;
      room : length l.names.items ≤ vec_capacity l.disks;
      kinds : Each (λ o. IsOfKind o.name o.kept) l.disks.items;
      lent : IsTrue tells → IsLent g.S.Disk.Disk.image (image l.fn.store) (image l.store) (lent_all l.disks.items);
      kept : IsTrue tells → Each (λ o. IsKept (image l.fn.store) (kept_by o)) l.disks.items;
      places : g.S.Store.places_left l.fn.store + length l.disks.items ≤ g.S.Store.places_left l.store;
      plan : IsTrue g.S.Disk.Disk.planned → AreAsPlanned g.S.Disk.Disk g.S.Store l.fn.store l.store (lent_all l.disks.items);
      count : g.S.Store.faults l.fn.store ≤ g.S.Store.faults l.store;
    }
