use Rattle.std.proofs.Common.{false, refl}
use Rattle.joiner_node.proofs.Words.{second_meets}
use Rattle.joiner_node.proofs.disks.Disks.make_room.Goals as goal

pub returns-in-Pair-clause-plan : goal.returns-in-Pair-clause-plan
returns-in-Pair-clause-plan g c planned = second_meets g.D.Disk.stops g.D.Disk.made g.D.Disk.faults 0 false false _ _ _ _ refl refl (c.make_room-in-Pair.ensures.plan (g.met.D.Disk.plan_told planned))
