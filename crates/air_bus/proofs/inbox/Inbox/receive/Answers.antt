use Rattle.std.proofs.Common.{◌≡◌, ℕ, ◌+◌, ◌-◌, ◌^◌, ◌==◌, ◌++◌, ap, ◌∙◌, subst, arith}
use Rattle.std.specs.Prelude.{min, count_by}
use Rattle.air_bus.proofs.Words.{length-set, copies_of, Holds, link_fate, ordinal}
use Rattle.air_bus.proofs.Counts.{counts_more, count_read}
use Rattle.air_bus.proofs.inbox.Inbox.receive.Goals as goal

pub returns-clause-ok : goal.returns-clause-ok
returns-clause-ok c = λ nodes r k.
    let sent = c.args.self.now.sent.items in
    let most = 2 ^ 64 - 1 in
    let old = c.index-ordinal.result.now in
    let read = count_read most sent r.senders c.from-sender.result c.args.from old c.from-sender.ensures c.requires.counted c.index-ordinal.ensures (k.counted c.args.from (omega (arith, c.requires.counted, k.width))) in
    let exact : old ≡ ordinal c.args.from r = omega (arith, read, c.if-ordinal.false) in
    let more : old + 1 ≡ min (count_by (λ (s : ℕ). s == c.args.from) r.senders + 1) most = omega (arith, read, c.if-ordinal.false) in
    let fate = c.fate-fate.ensures ∙ ap (link_fate c.args.links.now.plan c.args.links.now.kinds.items c.args.from c.args.to) exact in record {
      width = length-set sent c.from-sender.result (old + 1) ∙ k.width;
      counted = λ n inside. counts_more most sent r.senders c.from-sender.result c.args.from (old + 1) c.from-sender.ensures c.requires.counted more n (k.counted n inside);
      queued = subst (λ f. Holds c.receive.new.self (r.copies ++ copies_of f c.args.from c.args.bytes.now)) fate (c.in_ok-receive.ensures.ok r.copies k.queued);
    }
