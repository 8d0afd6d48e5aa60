use Rattle.std.proofs.Common.{true, refl}
use Rattle.registry_server.proofs.Words.{meets}
use Rattle.registry_server.proofs.epoch_records.EpochRecordsRecordsEpochKeptRegistrar.append.Goals as goal

pub returns-in-Err-Disk-clause-plan : goal.returns-in-Err-Disk-clause-plan
returns-in-Err-Disk-clause-plan g c planned =
    meets g.D.Disk.stops g.D.Disk.made g.D.Disk.faults 4 true true _ _ refl (c.in-Err-Disk.ensures.plan (g.met.D.Disk.plan_told planned) c.requires.ready c.requires.low)
