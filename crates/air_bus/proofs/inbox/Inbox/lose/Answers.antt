use Rattle.std.proofs.Common.{◌≡◌, ℕ, ◌+◌, ◌-◌, ◌^◌, ◌==◌, sym, ◌∙◌, subst, arith, append-nil}
use Rattle.std.specs.Prelude.{min, count_by}
use Rattle.air_bus.proofs.Words.{length-set, Holds}
use Rattle.air_bus.proofs.Counts.{counts_more, count_read}
use Rattle.air_bus.proofs.inbox.Inbox.lose.Goals as goal

pub returns-clause-lost : goal.returns-clause-lost
returns-clause-lost c = λ plan kinds to bytes nodes r k.
    let sent = c.args.self.now.sent.items in
    let most = 2 ^ 64 - 1 in
    let read = count_read most sent r.senders c.from-sender.result c.args.from c.index.result.now c.from-sender.ensures c.requires c.index.ensures (k.counted c.args.from (omega (arith, c.requires, k.width))) in
    let more : c.saturating_add.result ≡ min (count_by (λ (s : ℕ). s == c.args.from) r.senders + 1) most = omega (arith, c.saturating_add.ensures, read) in record {
      width = length-set sent c.from-sender.result c.saturating_add.result ∙ k.width;
      counted = λ n inside. counts_more most sent r.senders c.from-sender.result c.args.from c.saturating_add.result c.from-sender.ensures c.requires more n (k.counted n inside);
      queued = subst (Holds c.args.self.now.queue) (sym (append-nil r.copies)) k.queued;
    }
