use Rattle.std.proofs.Common.{◌≡◌, ◌+◌, ◌*◌, ◌≤◌, ◌++◌, map, length, vec_capacity}
use Rattle.site_run.proofs.Words.{into_iter_items, into_iter_len, as_lent, all_from}
use Rattle.site_run.proofs.built.parting.apart.Given as goal

abbrev pub invariant-loop-node : goal.invariant-loop-node
invariant-loop-node g l =
    record {
      count : l.number + length (into_iter_items l.nodes) ≡ length l.fn.nodes.items;
      disks : map as_lent l.parts.disks.items ++ all_from (g.N.Parting.disks_of l.fn.config) l.number (into_iter_items l.nodes) ≡ map as_lent l.fn.parts.disks.items ++ all_from (g.N.Parting.disks_of l.fn.config) 0 l.fn.nodes.items;
      logs : l.parts.logs.items ++ all_from (λ _. g.N.Parting.logs_of) l.number (into_iter_items l.nodes) ≡ l.fn.parts.logs.items ++ all_from (λ _. g.N.Parting.logs_of) 0 l.fn.nodes.items;
      disk_count : length l.parts.disks.items + 2 * length (into_iter_items l.nodes) ≤ length l.fn.parts.disks.items + 2 * length l.fn.nodes.items;
      log_count : length l.parts.logs.items + length (into_iter_items l.nodes) ≤ length l.fn.parts.logs.items + length l.fn.nodes.items;
      disk_room : vec_capacity l.parts.disks ≡ vec_capacity l.fn.parts.disks;
      log_room : vec_capacity l.parts.logs ≡ vec_capacity l.fn.parts.logs;
    }

abbrev pub decreases-loop-node : goal.decreases-loop-node
decreases-loop-node g l = into_iter_len l.nodes
