use Rattle.std.proofs.Common.{ℕ, ◌+◌, List, drop, sym, ap, ◌∙◌}
use Rattle.batch_queue.proofs.Words.{drop_more, Insert, with_all}
use Rattle.batch_queue.proofs.settled.pick.Goals as goal

pub loop-number-preserved : goal.loop-number-preserved
loop-number-preserved c =
    let more = c.args.more.now in
    let k = c.loop-number.number-index in
    ap (with_all (drop (k + 1) more)) c.in_ok-insert.ensures.entries
    ∙ ap (λ (xs : List (ℕ × Insert)). with_all xs c.loop-number.picked.entries) (sym (drop_more more k _ c.loop-number-test.true)) ∙ c.loop-number.invariant
