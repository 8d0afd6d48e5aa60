use Rattle.std.proofs.Common.{◌≡◌, ◌+◌, ◌*◌, ◌≤◌, ◌++◌, map, length, vec_capacity}
use Rattle.site_run.proofs.Words.{into_iter_items, into_iter_len, as_lent, all_from, or_else, first_fault}
use Rattle.site_run.proofs.settle.part_all.Given as goal

abbrev pub invariant-loop-left : goal.invariant-loop-left
invariant-loop-left g l =
    let left = into_iter_items l.nodes in
    let parts = l.fn.parts in
    let nodes = l.fn.nodes.items in
    record {
      count : l.number + length left ≡ length nodes;
      disks : map as_lent l.parts.disks.items ++ all_from (λ i w. g.N.Parting.disks_of l.fn.config i w.0) l.number left ≡ map as_lent parts.disks.items ++ all_from (λ i w. g.N.Parting.disks_of l.fn.config i w.0) 0 nodes;
      logs : l.parts.logs.items ++ all_from (λ i w. g.N.Parting.logs_of w.0) l.number left ≡ parts.logs.items ++ all_from (λ i w. g.N.Parting.logs_of w.0) 0 nodes;
      disk_count : length l.parts.disks.items + 2 * length left ≤ length parts.disks.items + 2 * length nodes;
      log_count : length l.parts.logs.items + length left ≤ length parts.logs.items + length nodes;
      disk_room : vec_capacity l.parts.disks ≡ vec_capacity parts.disks;
      log_room : vec_capacity l.parts.logs ≡ vec_capacity parts.logs;
      fault : or_else l.first (first_fault l.fn.config l.number left) ≡ first_fault l.fn.config 0 nodes;
    }

abbrev pub decreases-loop-left : goal.decreases-loop-left
decreases-loop-left g l = into_iter_len l.nodes
