use Rattle.registry_server.proofs.Words.{meets}
use Rattle.registry_server.proofs.epoch_records.EpochRecordsRecordsEpochKeptRegistrar.reopen.Goals as goal

pub returns-in-Err-clause-plan : goal.returns-in-Err-clause-plan
returns-in-Err-clause-plan g c planned = meets g.D.Disk.stops g.D.Disk.made g.D.Disk.faults 3 _ _ _ _ c.fault_of.ensures.shut (c.in-Err.ensures.plan planned)
