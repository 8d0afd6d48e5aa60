use Rattle.std.proofs.Common.{subst}
use Rattle.site_run.proofs.Words.{DispatcherKept, KeepsOffset, KeepsPending, KeepsVotes, ready_states}
use Rattle.site_run.proofs.Holding.{all_tell, are_held, doubted_votes, held_votes, keeps_at_rest, may_keep, rests}
use Rattle.site_run.proofs.disk_laws.all_held.Goals as goal

pub returns : goal.returns
returns g c = λ disk_tells log_tells.
    are_held (record { offset = λ d. d.records.offset.journal.disk; retry = λ d. d.records.retry.journal.disk; server = λ s. s.records.journal.journal.disk; replica = λ r. r.records.journal.disk; epochs = λ j. j.records.epochs.journal.disk; outputs = λ j. j.records.log.disk }) g.D.Disk.image _ _ _ _
    (λ v s at b here. may_keep _ _ _ (λ k. KeepsVotes k b) _ _ _ s (held_votes c.read.ensures.notes v.records b here disk_tells) (doubted_votes c.read.ensures.notes v.records b here) at)
    (λ v s. c.images.ensures v s (all_tell g.D.Disk.tells g.L.LogFile.tells disk_tells log_tells))
    (record {
      dispatchers = λ v s at closed.
          let holds = rests _ _ _ _ _ _ s closed at in
          let ready = ready_states v.records holds.ready in (
            λ b here. subst (λ (k : DispatcherKept). KeepsOffset k.offset b) holds.is (v.records.offset.durable disk_tells ready.0 b here),
            λ b here. subst (λ (k : DispatcherKept). KeepsPending k.pending b) holds.is (v.records.retry.durable disk_tells ready.1 b here),
          );
      servers = λ v s at closed. keeps_at_rest _ _ _ _ _ _ s disk_tells closed at;
      replicas = λ v s at closed b here. held_votes c.read.ensures.notes v.records b here disk_tells s.kept (rests _ _ _ _ _ _ s closed at);
      joiners = λ v s at closed. let holds = rests _ _ _ _ _ _ s closed at in (holds.epochs, holds.pairs);
    })
