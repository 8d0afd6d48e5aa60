use Rattle.std.proofs.Common.{None, ℕ, ap, arith, length, subst, sym, ◌≡◌, ◌∙◌}
use Rattle.joiner_node.proofs.Words.{JoinerKept, Knows, Numbered}
use Rattle.joiner_node.proofs.Reopening.{holds_read}
use Rattle.joiner_node.proofs.node.joiner_node.Goals as goal

pub returns-in-Ok-clause-stands : goal.returns-in-Ok-clause-stands
returns-in-Ok-clause-stands g c tells g' k of_g is epoch pairs =
    let node = c.new-in-Ok in
    let epochs = c.args.epochs in
    let log = c.args.log in
    let parts = c.into_parts-log.ensures in
    let site = c.joiner_number-number.ensures.site g' (ap (λ s. s.replicas) of_g) (ap (λ s. s.joiners) of_g) in
    let knows = c.in-Ok.ensures.knows g' k site is (c.epoch.ensures ∙ ap (λ e. e.epoch) c.value.ensures ∙ epoch) in
    let many : length c.pairs.result.now ≡ length log.value.pairs.items = ap length c.pairs.ensures.pairs ∙ ap (λ o. length o.pairs.items) parts.value in
    let kept : Numbered JoinerKept = record { number = node.result.number; disk = k } in
    node.ensures.stands g' kept of_g (subst (λ (n : ℕ). Knows c.in-Ok.joining g' (record { number = n; disk = k }) None) (sym node.ensures.number) knows)
    (rw (← parts.journal) at (holds_read (record { epochs = epochs; log = log.journal; written = length c.pairs.result.now }) log.value.pairs.items kept many (omega (arith, many, log.value.pairs.ok)) epoch pairs (λ b here. epochs.durable tells c.requires.ready.0 b here) (λ b here. log.durable tells c.requires.ready.1 b here)))
