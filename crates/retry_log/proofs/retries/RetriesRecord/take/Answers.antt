use Rattle.std.proofs.Common.{◌∙◌, ap, sym}
use Rattle.gate_journal.specs.FoldLaws.{comes_next, comes_wrong}
use Rattle.retry_log.specs.Pending.{retries, changed}
use Rattle.retry_log.proofs.retries.RetriesRecord.take.Goals as goal

pub returns-in-Ok-clause-next : goal.returns-in-Ok-clause-next
returns-in-Ok-clause-next c made ps kept =
    let old = c.args.self.now.pending.keys in
    comes_next retries ps old c.make_change.new.pending.keys c.args.payload.now kept (ap (changed old) (sym c.in-Some.ensures) ∙ c.in-Ok.ensures.made made)

pub returns-in-Ok-clause-damage : goal.returns-in-Ok-clause-damage
returns-in-Ok-clause-damage c none ps rest kept =
    let old = c.args.self.now.pending.keys in
    comes_wrong retries ps rest old c.args.payload.now kept (ap (changed old) (sym c.in-Some.ensures) ∙ c.in-Ok.ensures.no_change none)

pub returns-in-None-clause-damage : goal.returns-in-None-clause-damage
returns-in-None-clause-damage c none ps rest kept =
    let old = c.args.self.now.pending.keys in
    comes_wrong retries ps rest old c.args.payload.now kept (ap (changed old) (sym c.in-None.ensures))
