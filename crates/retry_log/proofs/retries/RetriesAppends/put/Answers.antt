use Rattle.std.proofs.Common.{◌≤◌, ◌+◌, sym, subst}
use Rattle.indexmap.specs.IndexSet.{spare}
use Rattle.retry_log.specs.declared.changing.Change.{Change}
use Rattle.retry_log.specs.Pending.{places_of}
use Rattle.retry_log.proofs.retries.RetriesAppends.put.Goals as goal

pub returns-in-Park-clause-room : goal.returns-in-Park-clause-room
returns-in-Park-clause-room c =
    subst (λ (change : Change). spare c.args.self.now.pending ≤ spare c.put_last.new.pending + places_of change) (sym c.in-Park.is) c.put_last.ensures.room
