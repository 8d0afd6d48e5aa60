use Rattle.std.proofs.Common.{◌≡◌, suc, ◌∙◌, length, ap, arith}
use Rattle.site_run.proofs.Lists.{parted}
use Rattle.site_run.proofs.built.parting.apart.Goals as goal

pub loop-node-preserved : goal.loop-node-preserved
loop-node-preserved g c =
    let i = c.loop-node.invariant in
    let left = ap length c.in-Some.ensures.items in
    let next : c.saturating_add-number.result ≡ suc c.loop-node.number = omega (arith, c.saturating_add-number.ensures, i.count, left, c.requires.few) in
    record {
      count = omega (arith, next, i.count, left);
      disks = parted _ _ _ _ _ _ _ _ _ c.part.ensures.disks c.in-Some.ensures.items next i.disks;
      logs = parted _ _ _ _ _ _ _ _ _ c.part.ensures.logs c.in-Some.ensures.items next i.logs;
      disk_count = omega (arith, i.disk_count, left, c.part.ensures.disk_count);
      log_count = omega (arith, i.log_count, left, c.part.ensures.log_count);
      disk_room = c.part.ensures.disk_room ∙ i.disk_room;
      log_room = c.part.ensures.log_room ∙ i.log_room;
    }
