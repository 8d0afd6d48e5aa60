use Rattle.std.proofs.Common.{refl}
use Rattle.site_run.proofs.Holding.{are_met}
use Rattle.site_run.proofs.disk_laws.all_met.Goals as goal

pub returns : goal.returns
returns g c =
    are_met (record { offset = λ d. d.records.offset.journal.disk; retry = λ d. d.records.retry.journal.disk; server = λ s. s.records.journal.journal.disk; replica = λ r. r.records.journal.disk; epochs = λ j. j.records.epochs.journal.disk; outputs = λ j. j.records.log.disk }) g.D.Disk.faults g.L.LogFile.faults (λ d. d.core.clicks.tail.log) (λ j. j.core.queries.store.tail.log)
    _ _ _ _ _ (λ v. refl) (λ v disk. refl) (λ v. refl)
