use Rattle.std.proofs.Common.{◌≡◌, suc, ◌∙◌, refl, length, ap, arith}
use Rattle.site_run.proofs.Words.{first_fault}
use Rattle.site_run.proofs.Lists.{faulted, parted}
use Rattle.site_run.proofs.settle.part_all.Goals as goal

pub loop-left-preserved : goal.loop-left-preserved
loop-left-preserved g c =
    let i = c.loop-left.invariant in
    let left = ap length c.in-Some.ensures.items in
    let next : c.saturating_add-number.result ≡ suc c.loop-left.number = omega (arith, c.saturating_add-number.ensures, i.count, left, c.requires.few) in
    record {
      count = omega (arith, next, i.count, left);
      disks = parted _ _ _ _ _ _ _ _ _ c.part.ensures.disks c.in-Some.ensures.items next i.disks;
      logs = parted _ _ _ _ _ _ _ _ _ c.part.ensures.logs c.in-Some.ensures.items next i.logs;
      disk_count = omega (arith, i.disk_count, left, c.part.ensures.disk_count);
      log_count = omega (arith, i.log_count, left, c.part.ensures.log_count);
      disk_room = c.part.ensures.disk_room ∙ i.disk_room;
      log_room = c.part.ensures.log_room ∙ i.log_room;
      fault = faulted c.args.config.now c.loop-left.number c.saturating_add-number.result c.loop-left.first c.first_of-first.result (first_fault c.args.config.now 0 c.args.nodes.items) c.in-Some.left.1 c.in-Some.left.0 c.in-Some.left _ _ refl c.in-Some.ensures.items next c.first_of-first.ensures i.fault;
    }
