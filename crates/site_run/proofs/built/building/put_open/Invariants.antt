use Rattle.std.proofs.Common.{◌≡◌, ◌+◌, ◌≤◌, ◌++◌, length, map, vec_capacity}
use Rattle.site_run.proofs.Words.{as_lent, into_iter_items, into_iter_len, lent_all}
use Rattle.site_run.proofs.built.building.put_open.Given as goal

abbrev pub invariant-loop-open : goal.invariant-loop-open
invariant-loop-open g l = record {
  disks : map as_lent l.parts.disks.items ++ lent_all (into_iter_items l.disks) ≡ map as_lent l.fn.parts.disks.items ++ lent_all l.fn.disks.items;
  count : length l.parts.disks.items + length (into_iter_items l.disks) ≤ vec_capacity l.parts.disks;
  room : vec_capacity l.parts.disks ≡ vec_capacity l.fn.parts.disks;
  logs : l.parts.logs.items ≡ l.fn.parts.logs.items;
  log_room : vec_capacity l.parts.logs ≡ vec_capacity l.fn.parts.logs;
}

abbrev pub decreases-loop-open : goal.decreases-loop-open
decreases-loop-open g l = into_iter_len l.disks
